-- A walk over two maps side by side. (This project's rules.)
use Rattle.std.specs.Prelude.{◌≡◌, ℕ, ◌+◌, ◌<◌, List, [], ◌∷◌, ◌++◌, length, Option, Some, None}
use Rattle.prolly_entry.specs.Keys.{KeyBelow}
use Rattle.prolly_entry.specs.Pair.{Pair}
use Rattle.prolly_entry.specs.Record.{Record}
use Rattle.prolly_tree.specs.Difference.{Above, IsDifference, IsMap}
use Rattle.prolly_tree.specs.LookUp.{find}

-- What is left of two maps, from where the walk stands.
pub record Maps : Type 0 where
  pub before : List Pair
  pub after : List Pair

-- What is left of both is a map.
abbrev pub AreMaps : Maps → Type 0
AreMaps maps = IsMap maps.before × IsMap maps.after

-- Both maps begin with the same pairs, behind which `rest` is left.
pub record AreAlike (maps rest : Maps) : Type 0 where
  pub shared : List Pair
  pub before_is : maps.before ≡ shared ++ rest.before
  pub after_is : maps.after ≡ shared ++ rest.after

-- These pairs were taken, where there are some: they have the least key that the maps had, and
-- `rest` is left.
abbrev pub TakesLeast : Maps → Option Pair → Option Pair → Maps → Type 0
TakesLeast maps None None rest = (maps.before ≡ []) × (maps.after ≡ []) × (rest.before ≡ []) ×
    (rest.after ≡ [])
TakesLeast maps (Some before) None rest = (maps.before ≡ before ∷ rest.before) ×
    (maps.after ≡ rest.after) × Above before.key rest.after
TakesLeast maps None (Some after) rest = (maps.before ≡ rest.before) ×
    (maps.after ≡ after ∷ rest.after) × Above after.key rest.before
TakesLeast maps (Some before) (Some after) rest = (maps.before ≡ before ∷ rest.before) ×
    (maps.after ≡ after ∷ rest.after) × (before.key ≡ after.key)

-- The key is the first in which the maps differ: the one has `before` at it, and the other `after`.
-- The record that says so, before the difference of the maps that are left, makes theirs; what the
-- one map has of greater keys is left of it; and what is left is shorter.
pub record IsFirstChange (maps : Maps) (key : List ℕ) (before after : Option (List ℕ))
    (rest : Maps) : Type 0 where
  pub begins : (d : List Record) → IsDifference rest.before rest.after d →
      IsDifference maps.before maps.after (record { key = key; value = after } ∷ d)
  pub before_is : find maps.before key ≡ before
  pub after_is : find maps.after key ≡ after
  pub greater : (other : List ℕ) → KeyBelow key other →
      find maps.before other ≡ find rest.before other
  pub left : AreMaps rest
  pub less : length rest.before + length rest.after < length maps.before + length maps.after

-- The maps are the same, and nothing is left of them.
pub record IsWalkEnd (maps rest : Maps) : Type 0 where
  pub same : IsDifference maps.before maps.after []
  pub before_is : rest.before ≡ []
  pub after_is : rest.after ≡ []
