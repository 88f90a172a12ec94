use Rattle.std.proofs.Common.{length}
use Rattle.prolly_apply.proofs.Cuttings.{SomeLeft}
use Rattle.prolly_apply.proofs.cutting.ends_at_boundary.Given as goal

abbrev pub invariant-loop-spelling : goal.invariant-loop-spelling
invariant-loop-spelling g l = SomeLeft (g.C.Cut.cut l.fn.cut) l.fn.leaf l.leaf

abbrev pub decreases-loop-spelling : goal.decreases-loop-spelling
decreases-loop-spelling g l = length l.leaf
