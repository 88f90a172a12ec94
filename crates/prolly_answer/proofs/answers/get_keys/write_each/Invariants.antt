use Rattle.std.proofs.Common.{map, take}
use Rattle.prolly_look_up.specs.Content.{Content, IsFileOf}
use Rattle.prolly_answer.specs.KeyLookUps.{found_at}
use Rattle.prolly_answer.proofs.KeySteps.{HasWritten}
use Rattle.prolly_answer.proofs.answers.get_keys.write_each.Given as goal

abbrev pub invariant-loop-key : goal.invariant-loop-key
invariant-loop-key g l = (content : Content) → IsFileOf l.tree content →
    HasWritten g.W.Sink.seen l.notation (found_at content.pairs
    (map (λ k. k.items) (take l.key-index l.keys))) l.initial.sink l.sink
