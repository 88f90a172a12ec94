use Rattle.std.proofs.Common.{All, take}
use Rattle.prolly_entry.specs.Prefix.{IsPrefix}
use Rattle.prolly_sort.specs.Place.{key_in}
use Rattle.prolly_sort.proofs.rank.common_front.Given as goal

abbrev pub invariant-loop-place : goal.invariant-loop-place
invariant-loop-place l = All (λ p. IsPrefix l.front (key_in l.bytes p)) (take l.place-index l.places)
