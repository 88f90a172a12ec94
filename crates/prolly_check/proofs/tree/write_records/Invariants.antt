use Rattle.std.proofs.Common.{length}
use Rattle.prolly_check.proofs.LeafRests.{IsDumped}
use Rattle.prolly_check.proofs.tree.write_records.Given as goal

abbrev pub invariant-loop-leaf : goal.invariant-loop-leaf
invariant-loop-leaf g l = IsDumped l.fn.leaves l.leaves (g.W.Sink.seen l.initial.sink)
    (g.W.Sink.seen l.sink)

abbrev pub decreases-loop-leaf : goal.decreases-loop-leaf
decreases-loop-leaf g l = length l.leaves
