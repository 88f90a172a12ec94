use Rattle.std.proofs.Common.{◌≡◌, ◌+◌, length}
use Rattle.prolly_check.proofs.numbers.count_pairs.Given as goal

abbrev pub invariant-loop-leaf : goal.invariant-loop-leaf
invariant-loop-leaf l = l.count + length l.leaves ≡ length l.fn.leaves

abbrev pub decreases-loop-leaf : goal.decreases-loop-leaf
decreases-loop-leaf l = length l.leaves
