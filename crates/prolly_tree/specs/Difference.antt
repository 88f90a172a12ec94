-- The difference of two maps: the records that turn the one into the other. (This project's rules.)
use Rattle.std.specs.Prelude.{◌≡◌, ◌≢◌, ℕ, List, [], ◌∷◌, map, Option, Some, None}
use Rattle.std.specs.List.{AllByRecursion}
use Rattle.prolly_entry.specs.Keys.{KeyBelow, Rising}
use Rattle.prolly_entry.specs.Overlay.{change_of, overlay}
use Rattle.prolly_entry.specs.Pair.{Pair}
use Rattle.prolly_entry.specs.Record.{Record, keys_of}
use Rattle.prolly_tree.specs.LookUp.{find}

-- What is to be said of a key for which the one map has `before` and the other `after`: nothing
-- where these are the same, and else what the other has, a value or that the key is removed.
abbrev pub IsChangeTo : Option (List ℕ) → Option (List ℕ) → Option (Option (List ℕ)) → Type 0
IsChangeTo before after None = before ≡ after
IsChangeTo before after (Some said) = (said ≡ after) × (before ≢ after)

-- The records are the difference of two maps: their keys rise, and of each key they say what is to
-- be said.
pub record IsDifference (old new : List Pair) (records : List Record) : Type 0 where
  pub rising : Rising (keys_of records)
  pub says : (key : List ℕ) → IsChangeTo (find old key) (find new key) (change_of records key)

-- The keys of pairs rise: the pairs are a map.
abbrev pub IsMap : List Pair → Type 0
IsMap m = Rising (map (λ p. p.key) m)

-- Each key of pairs is above this key.
abbrev pub Above : List ℕ → List Pair → Type 0
Above key ps = AllByRecursion (λ q. KeyBelow key q.key) ps

-- The records that put the pairs.
abbrev pub puts : List Pair → List Record
puts m = map (λ p. record { key = p.key; value = Some p.value }) m

-- Law: the difference of two maps says nothing of a key that both have alike.
abbrev pub SaysNoEqual : Type 0
SaysNoEqual = (old new : List Pair) (d : List Record) (key : List ℕ) → IsDifference old new d →
    find old key ≡ find new key → change_of d key ≡ None

-- Law: two maps have a difference.
abbrev pub SomeDifference : Type 0
SomeDifference = (old new : List Pair) → IsMap old → IsMap new →
    (d : List Record) × IsDifference old new d

-- Law: two maps have at most one difference.
abbrev pub OneDifference : Type 0
OneDifference = (old new : List Pair) (d e : List Record) → IsDifference old new d →
    IsDifference old new e → d ≡ e

-- Law: the overlay of a map and its difference to another is the other.
abbrev pub DifferenceTurns : Type 0
DifferenceTurns = (old new : List Pair) (d : List Record) → IsMap old → IsMap new →
    IsDifference old new d →
    overlay (puts old ∷ d ∷ []) ≡ new

-- Law: maps are equal exactly where their difference is empty.
abbrev pub EqualsDifferNowhere : Type 0
EqualsDifferNowhere = (old new : List Pair) → IsMap old → IsMap new →
    (old ≡ new → IsDifference old new []) × (IsDifference old new [] → old ≡ new)

-- Law: differences compose by overlay.
abbrev pub DifferencesCompose : Type 0
DifferencesCompose = (a b c : List Pair) (d e : List Record) → IsMap a → IsMap b → IsMap c →
    IsDifference a b d → IsDifference b c e → overlay (puts a ∷ d ∷ e ∷ []) ≡ c
