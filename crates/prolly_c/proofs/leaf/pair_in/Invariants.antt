use Rattle.std.proofs.Common.{length}
use Rattle.prolly_c.proofs.Entries.{CountsIn}
use Rattle.prolly_c.proofs.leaf.pair_in.Given as goal

abbrev pub invariant-loop-left : goal.invariant-loop-left
invariant-loop-left l = CountsIn l.number l.ahead l.fn.entries l.left

abbrev pub decreases-loop-left : goal.decreases-loop-left
decreases-loop-left l = length l.left
