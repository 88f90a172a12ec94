use Rattle.std.proofs.Common.{◌≡◌, ◌++◌, List, length}
use Rattle.prolly_entry.specs.Pair.{Pair}
use Rattle.prolly_tree.specs.Difference.{IsMap}
use Rattle.prolly_look_up.specs.HeldPairs.{pairs_held}
use Rattle.prolly_look_up.specs.PairsFrom.{IsLeft, pairs_from}
use Rattle.prolly_look_up.proofs.rest.rest_from.Given as goal

abbrev pub invariant-loop-key : goal.invariant-loop-key
invariant-loop-key l = record {
  end : (before : List Pair) × (pairs_held l.chunk ≡ before ++ l.rest);
  same : pairs_from l.from (pairs_held l.chunk) ≡ pairs_from l.from l.rest;
  is_map : IsMap l.rest;
  mark : IsLeft (pairs_held l.chunk) l.passed;
}

abbrev pub decreases-loop-key : goal.decreases-loop-key
decreases-loop-key l = length l.rest
