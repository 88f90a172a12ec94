use Rattle.std.proofs.Common.{◌++◌, length}
use Rattle.prolly_look_up.specs.lemmas.PairsFrom.{IsCopiedTo}
use Rattle.prolly_look_up.proofs.copies.copy_pairs.Given as goal

abbrev pub invariant-loop-key : goal.invariant-loop-key
invariant-loop-key l = IsCopiedTo l.limit (l.fn.pairs.items ++ l.fn.leaf) l.pairs.items l.leaf

abbrev pub decreases-loop-key : goal.decreases-loop-key
decreases-loop-key l = length l.leaf
