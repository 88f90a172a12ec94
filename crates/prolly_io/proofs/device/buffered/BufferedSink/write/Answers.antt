use Rattle.std.proofs.lemmas.Grind.{common_steps}
use Rattle.std.proofs.Common.{arith}
use Rattle.prolly_io.proofs.device.buffered.BufferedSink.write.Goals as goal
use Rattle.prolly_io.proofs.device.buffered.BufferedSink.write.Goals.{then-buf-capacity+in_ok-hand_on}
use Rattle.prolly_io.proofs.device.buffered.BufferedSink.write.Goals.{else-buf-capacity}

pub returns-clause-emptied : goal.returns-clause-emptied
returns-clause-emptied g c full = elim c.if-buf-capacity.branch [
  | then-buf-capacity+in_ok-hand_on w ↦
      let empty = w.in_ok-hand_on.ensures.empty in
      let kept = rw w.self-is at c.hold.ensures in
      omega (arith, empty.room, empty.len, kept.room, kept.len)
  | else-buf-capacity w ↦ absurd (omega (
    arith,
    full,
    w.if-buf-capacity.false,
    c.capacity.ensures,
    c.len.ensures,
  ))
]

pub returns-clause-bytes : goal.returns-clause-bytes
returns-clause-bytes g c = grind (arith, common_steps)
