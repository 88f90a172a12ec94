-- Sets of keys that are sought together, and where in a tree they may stand. (This project's rules.)
use Rattle.std.specs.Ordering.{is_lt}
use Rattle.std.specs.Prelude.{ℕ, suc, Bool, true, not, ◌&&◌, List, [], ◌∷◌, map, Option, Some, None}
use Rattle.std.specs.Prelude.{if◌then◌else◌}
use Rattle.std.specs.List.{filter}
use Rattle.std.specs.Option.{option_copied}
use Rattle.prolly_entry.specs.Keys.{key_order}
use Rattle.prolly_entry.specs.Pair.{Pair}
use Rattle.prolly_range.specs.declared.key_set.KeySet.{KeySet as Asked}
use Rattle.prolly_range.specs.declared.key_set.KeySet.TheVariants.{Range as AskedRange}
use Rattle.prolly_range.specs.declared.key_set.KeySet.TheVariants.{Keys as AskedKeys}
use Rattle.prolly_range.specs.declared.sorted_keys.SortedKeys.{SortedKeys}
use Rattle.prolly_range.specs.SortedKeys.{is_one_of, keys_above, keys_up_to}

-- A set of keys: those that are not less than the one, and less than the other, and where there is no
-- other, all that are not less than the one; or those of a list.
pub data KeySet : Type 0 where
  Range : List ℕ → Option (List ℕ) → KeySet
  Keys : List (List ℕ) → KeySet

-- The keys of a list that rises.
abbrev pub keys_in : SortedKeys → List (List ℕ)
keys_in sorted = map (λ k. k.items) sorted.keys.now

-- What a call was asked for, as a set of keys.
abbrev pub set_of : Asked → KeySet
set_of (AskedRange from to) = Range from.now (option_copied to)
set_of (AskedKeys sorted) = Keys (keys_in sorted)

-- The key is less than the end of a range, where that has one.
abbrev pub is_before : Option (List ℕ) → List ℕ → Bool
is_before None key = true
is_before (Some to) key = is_lt (key_order key to)

-- The key is one of the set.
abbrev pub has_key : KeySet → List ℕ → Bool
has_key (Range from to) key = not (is_lt (key_order key from)) && is_before to key
has_key (Keys keys) key = is_one_of keys key

-- The pairs whose keys are of the set.
abbrev pub pairs_wanted : KeySet → List Pair → List Pair
pairs_wanted set pairs = filter (λ p. has_key set p.key) pairs

-- The set of these keys; none where there is no key.
abbrev pub some_keys : List (List ℕ) → Option KeySet
some_keys [] = None
some_keys (key ∷ keys) = Some (Keys (key ∷ keys))

-- What of the set may stand among keys of which this is the greatest: of a range all, or nothing
-- where it begins behind that key; of a list the keys that are not greater.
abbrev pub part_below : KeySet → List ℕ → Option KeySet
part_below (Range from to) greatest =
    if is_lt (key_order greatest from) then None else Some (Range from to)
part_below (Keys keys) greatest = some_keys (keys_up_to greatest keys)

-- What of the set may stand among keys that are greater than this one: of a range all, or nothing
-- where it ends there or before; of a list the keys that are greater.
abbrev pub part_behind : KeySet → List ℕ → Option KeySet
part_behind (Range from to) key = if is_before to key then Some (Range from to) else None
part_behind (Keys keys) key = some_keys (keys_above key keys)

-- One of several things in which keys are sought: its number, counted from 0, and which keys.
pub record Met (A : Type 0) : Type 0 where
  pub number : ℕ
  pub item : A
  pub set : KeySet

-- The things in which keys are sought: the first one, of this number, with its part of the set if
-- it has one, and then the others.
abbrev pub met_first : {A : Type 0} → ℕ → A → Option KeySet → List (Met A) → List (Met A)
met_first number x None others = others
met_first number x (Some part) others = record { number = number; item = x; set = part } ∷ others

-- The things in which keys of the set are sought, of things that stand one behind another and have
-- these greatest keys: each of them in which some may stand that stand in none before it.
abbrev pub met_in : {A : Type 0} → (A → List ℕ) → ℕ → Option KeySet → List A → List (Met A)
met_in greatest number None xs = []
met_in greatest number (Some set) [] = []
met_in greatest number (Some set) (x ∷ xs) = met_first number x (part_below set (greatest x))
    (met_in greatest (suc number) (part_behind set (greatest x)) xs)
