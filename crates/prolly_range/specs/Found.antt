-- What is known of keys from the pairs that were shown of a set of keys.
use Rattle.std.specs.List.{list_any}
use Rattle.std.specs.Ordering.{is_lt}
use Rattle.std.specs.Prelude.{◌≡◌, ℕ, ◌⊎◌, true, not, List, [], ◌∷◌, ◌++◌}
use Rattle.prolly_entry.specs.Keys.{Rising, key_order}
use Rattle.prolly_entry.specs.Pair.{Pair}
use Rattle.prolly_entry.specs.declared.version.Version.{Version}
use Rattle.prolly_tree.specs.Difference.{IsMap}
use Rattle.prolly_tree.specs.LookUp.{find}
use Rattle.prolly_range.specs.KeySet.{KeySet, has_key, pairs_wanted}
use Rattle.prolly_range.specs.KeySet.KeySet.{Keys}
use Rattle.prolly_range.specs.SetProof.{AreTaken, Due, root_due}

-- What there is at the key was shown, or nothing is there: a pair was shown whose key is not less, or
-- there is no more to be shown.
abbrev pub IsPast : List ℕ → List Pair → List Pair → Type 0
IsPast key shown more =
    (list_any (λ p. not (is_lt (key_order p.key key))) shown ≡ true) ⊎ (more ≡ [])

-- Law: of each key of the set that is past the map has what was shown of it, a value or nothing.
abbrev pub KeysAreFound : Type 0
KeysAreFound = (set : KeySet) (m shown more : List Pair) (key : List ℕ) → IsMap m →
    pairs_wanted set m ≡ shown ++ more → has_key set key ≡ true → IsPast key shown more →
    find shown key ≡ find m key

-- The keys of the pairs are some of these keys, in their order.
abbrev pub AreSomeOf : List Pair → List (List ℕ) → Type 0
AreSomeOf [] keys = Unit {0}
AreSomeOf (p ∷ pairs) [] = ⊥
AreSomeOf (p ∷ pairs) (key ∷ keys) =
    ((p.key ≡ key) × AreSomeOf pairs keys) ⊎ AreSomeOf (p ∷ pairs) keys

-- Law: what chunks show that were taken one after another, where a list of keys is sought from a root
-- on, are pairs of some of these keys, in their order, whatever the chunks are.
abbrev pub ShownInOrder : Type 0
ShownInOrder = (version : Version) (root : List ℕ) (keys : List (List ℕ)) (chunks : List (List ℕ))
    (pairs : List Pair) (due : List Due) → Rising keys →
    AreTaken version (root_due root (Keys keys) ∷ []) chunks pairs due → AreSomeOf pairs keys
