use Rattle.std.proofs.Common.{length}
use Rattle.prolly_look_up.specs.lemmas.PairsFrom.{IsCopiedTo}
use Rattle.prolly_check.proofs.look_up.scan.scan_pairs.Given as goal

abbrev pub invariant-loop-leaf : goal.invariant-loop-leaf
invariant-loop-leaf l = IsCopiedTo l.limit l.fn.leaves l.found.items l.leaves

abbrev pub decreases-loop-leaf : goal.decreases-loop-leaf
decreases-loop-leaf l = length l.leaves
