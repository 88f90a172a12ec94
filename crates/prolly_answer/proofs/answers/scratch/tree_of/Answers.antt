use Rattle.std.proofs.Common.{rules}
use Rattle.prolly_answer.proofs.Rises.{none_falls}
use Rattle.prolly_answer.proofs.answers.scratch.tree_of.Goals as goal

pub unreachable-requires : goal.unreachable-requires
unreachable-requires g c = none_falls c.in_ok-pairs.pairs.items c.in-Err-OutOfOrder.field-0-0
    c.in_ok-pairs.ensures.rising (search rules)
