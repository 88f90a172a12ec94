-- Positions among keys.
use Rattle.std.specs.Prelude.{ℕ, Bool, true, false, List, [], ◌∷◌, Option, Some, None}
use Rattle.std.specs.Ordering.{is_lt}
use Rattle.prolly_entry.specs.Keys.{key_order}
use Rattle.prolly_entry.specs.Record.{Record}

-- A position among keys: before all of them (None), or at a key.
abbrev pub Position : Type 0
Position = Option (List ℕ)

-- The position of a list's end: its last key, or before all keys where it is empty.
abbrev pub last_position : List Record → Position
last_position [] = None
last_position (r ∷ []) = Some r.key
last_position (r ∷ s ∷ rs) = last_position (s ∷ rs)

-- The one position comes before the other.
abbrev pub is_before : Position → Position → Bool
is_before p None = false
is_before None (Some y) = true
is_before (Some x) (Some y) = is_lt (key_order x y)
