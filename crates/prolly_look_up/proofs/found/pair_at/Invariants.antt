use Rattle.std.proofs.Common.{◌≡◌, length}
use Rattle.prolly_tree.specs.LookUp.{nth}
use Rattle.prolly_look_up.proofs.found.pair_at.Given as goal

abbrev pub invariant-loop-pair : goal.invariant-loop-pair
invariant-loop-pair l = nth l.fn.pairs l.n ≡ nth l.pairs l.ahead

abbrev pub decreases-loop-pair : goal.decreases-loop-pair
decreases-loop-pair l = length l.pairs
