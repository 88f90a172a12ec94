-- Lists of keys that rise, which are sought together.
use Rattle.std.specs.Coded.{×_prop, Unit-prop}
use Rattle.std.specs.List.{filter, list_any}
use Rattle.std.specs.Ordering.{Ordering-set, is_eq, is_lt}
use Rattle.std.specs.declared.cmp.Ordering.TheVariants.{Less}
use Rattle.std.specs.Prelude.{ℕ, suc, ◌<◌, Bool, not, List, [], ◌∷◌, length, take}
use Rattle.prolly_entry.specs.Keys.{KeyBelow, Rising, RisingFrom, key_order}

-- The key at this place, counted from 0, is the first that is not greater than the one before it.
pub record FallsFirst (keys : List (List ℕ)) (place : ℕ) : Type 0 where
  pub within : place < length keys
  pub before : Rising (take place keys)
  pub falls : Rising (take (suc place) keys) → ⊥

-- The key is one of these.
abbrev pub is_one_of : List (List ℕ) → List ℕ → Bool
is_one_of keys key = list_any (λ k. is_eq (key_order k key)) keys

-- Those of the keys that are not greater than this one.
abbrev pub keys_up_to : List ℕ → List (List ℕ) → List (List ℕ)
keys_up_to key keys = filter (λ k. not (is_lt (key_order key k))) keys

-- Those of the keys that are greater than this one.
abbrev pub keys_above : List ℕ → List (List ℕ) → List (List ℕ)
keys_above key keys = filter (λ k. is_lt (key_order key k)) keys

-- That keys rise from one on is said in one way only.
RisingFrom-prop : (x : List ℕ) (keys : List (List ℕ)) → IsProp (RisingFrom x keys)
RisingFrom-prop x [] = Unit-prop
RisingFrom-prop x (k ∷ ks) = ×_prop {A = KeyBelow x k} {B = RisingFrom k ks} (Ordering-set (key_order x k) Less)
    (RisingFrom-prop k ks)

-- That keys rise is said in one way only.
pub Rising-prop : (keys : List (List ℕ)) → IsProp (Rising keys)
Rising-prop [] = Unit-prop
Rising-prop (k ∷ ks) = RisingFrom-prop k ks
