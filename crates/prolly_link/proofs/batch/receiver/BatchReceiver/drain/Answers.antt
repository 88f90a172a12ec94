use Rattle.std.specs.VecDeque.{deque_len}
use Rattle.prolly_link.specs.declared.message.Progress.TheVariants.{Ended, Lost}
use Rattle.prolly_link.proofs.HandLemmas.{drained_batches}
use Rattle.prolly_link.proofs.batch.receiver.BatchReceiver.drain.Goals as goal

pub returns-in-Ended : goal.returns-in-Ended
returns-in-Ended g c =
    let hand = c.self.inside.hand in
    let ended = c.in-Ended.receiver in
    rw (← c.self.view_is) (
      c.in-Ended.ensures.0,
      drained_batches c.self.inside.receiver (Ended ended.end) ended.items hand.items
          (deque_len hand) c.self.invariant c.in-Ended.ensures.1,
    )

pub returns : goal.returns
returns g c =
    let hand = c.self.inside.hand in
    let lost = c.in-Lost.receiver in
    rw (← c.self.view_is) (
      c.in-Lost.ensures.0,
      drained_batches c.self.inside.receiver Lost lost.items hand.items (deque_len hand)
          c.self.invariant c.in-Lost.ensures.1,
    )
