use Rattle.std.proofs.Common.{◌≡◌}
use Rattle.prolly_sort.specs.Place.{prefix_of}
use Rattle.prolly_sort.proofs.place.prefix_of.Given as goal

abbrev pub invariant-loop-at : goal.invariant-loop-at
invariant-loop-at l = l.prefix ≡ prefix_of l.at l.bytes
