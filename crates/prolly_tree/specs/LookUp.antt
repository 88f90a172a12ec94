-- Look-ups in a map, a list of pairs with rising keys.
use Rattle.std.specs.Prelude.{ℕ, not, List, [], ◌∷◌, take, slice_get, Option, Some, None}
use Rattle.std.specs.Prelude.{if◌then◌else◌}
use Rattle.std.specs.Ordering.{is_lt, is_eq}
use Rattle.std.specs.List.{filter}
use Rattle.prolly_entry.specs.Keys.{key_order}
use Rattle.prolly_entry.specs.Pair.{Pair}

-- The key's value, or none.
abbrev pub find : List Pair → List ℕ → Option (List ℕ)
find [] key = None
find (p ∷ ps) key = if is_eq (key_order p.key key) then Some p.value else find ps key

-- The first n pairs whose key is not less than `from`.
abbrev pub scan : List Pair → List ℕ → ℕ → List Pair
scan m from n = take n (filter (λ p. not (is_lt (key_order p.key from))) m)

-- The pair at place n, counted from 0, or none.
abbrev pub nth : List Pair → ℕ → Option Pair
nth m n = slice_get m n
