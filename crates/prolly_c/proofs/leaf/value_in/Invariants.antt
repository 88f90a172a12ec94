use Rattle.std.proofs.Common.{length}
use Rattle.prolly_c.proofs.Entries.{FindsIn}
use Rattle.prolly_c.proofs.leaf.value_in.Given as goal

abbrev pub invariant-loop-left : goal.invariant-loop-left
invariant-loop-left l = FindsIn l.key l.fn.entries l.left

abbrev pub decreases-loop-left : goal.decreases-loop-left
decreases-loop-left l = length l.left
