use Rattle.std.proofs.Common.{◌≡◌, length}
use Rattle.prolly_tree.specs.LookUp.{find}
use Rattle.prolly_look_up.proofs.found.value_in.Given as goal

abbrev pub invariant-loop-found : goal.invariant-loop-found
invariant-loop-found l = find l.fn.pairs l.key ≡ find l.pairs l.key

abbrev pub decreases-loop-found : goal.decreases-loop-found
decreases-loop-found l = length l.pairs
