-- What the sides of a walk over two maps have in hand, and which of them comes first.
use Rattle.std.specs.Prelude.{◌≡◌, List, [], ◌∷◌, Option, Some, None}
use Rattle.std.specs.declared.cmp.Ordering.{Ordering}
use Rattle.std.specs.declared.cmp.Ordering.TheVariants.{Less, Greater}
use Rattle.prolly_entry.specs.Keys.{key_order}
use Rattle.prolly_entry.specs.Pair.{Pair}

-- The pairs in hand, if there are some.
abbrev pub pairs_in_hand : Option (List Pair) → List Pair
pairs_in_hand None = []
pairs_in_hand (Some pairs) = pairs

-- The list begins with the pair.
abbrev pub StartsWith : Pair → List Pair → Type 0
StartsWith first pairs = (rest : List Pair) × (pairs ≡ first ∷ rest)

-- How the keys of two pairs compare; where there is no pair, the other comes first.
abbrev pub IsOrder : Option Pair → Option Pair → Ordering → Type 0
IsOrder None after order = order ≡ Greater
IsOrder (Some before) None order = order ≡ Less
IsOrder (Some before) (Some after) order = order ≡ key_order before.key after.key
