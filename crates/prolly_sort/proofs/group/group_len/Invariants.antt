use Rattle.std.proofs.Common.{◌≡◌, ◌<◌, ℕ, get_or}
use Rattle.prolly_sort.specs.declared.place.Place.{Place}
use Rattle.prolly_sort.proofs.group.group_len.Given as goal

abbrev pub invariant-loop-len : goal.invariant-loop-len
invariant-loop-len l = (k : ℕ) (d : Place) → k < l.len → (get_or l.places k d).prefix ≡ l.prefix
