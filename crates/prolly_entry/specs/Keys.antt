-- Keys and their order. (This project's format.)
use Rattle.std.specs.Prelude.{◌≡◌, ℕ, ◌<◌, ◌↔◌, List, [], ◌∷◌, ◌++◌}
use Rattle.std.specs.declared.cmp.Ordering.{Ordering}
use Rattle.std.specs.declared.cmp.Ordering.TheVariants.{Less}
use Rattle.std.specs.Ordering.{nat_cmp}
use Rattle.std.specs.Cmp.Lexicographic.{slice_cmp}

-- Key x comes before key y where x is a proper prefix of y, or where at the first offset at which
-- they differ x's byte is less, bytes being unsigned.
pub data ComesBefore : List ℕ → List ℕ → Type 0 where
  is_prefix : (x : List ℕ) (b : ℕ) (y : List ℕ) → ComesBefore x (x ++ b ∷ y)
  is_less : (same : List ℕ) (a b : ℕ) (x y : List ℕ) → a < b →
      ComesBefore (same ++ a ∷ x) (same ++ b ∷ y)

-- The order of two keys, computed byte by byte.
abbrev pub key_order : List ℕ → List ℕ → Ordering
key_order x y = slice_cmp nat_cmp x y

-- Key x is less than key y.
abbrev pub KeyBelow : List ℕ → List ℕ → Type 0
KeyBelow x y = key_order x y ≡ Less

-- Law: the comparison says what the words say.
abbrev pub KeyOrderIsBytewise : Type 0
KeyOrderIsBytewise = (x y : List ℕ) → ComesBefore x y ↔ KeyBelow x y

-- Each key of the list is greater than the one before it, the first one greater than x.
abbrev pub RisingFrom : List ℕ → List (List ℕ) → Type 0
RisingFrom x [] = Unit {0}
RisingFrom x (y ∷ ys) = KeyBelow x y × RisingFrom y ys

-- Each key of the list is greater than the one before it.
abbrev pub Rising : List (List ℕ) → Type 0
Rising [] = Unit {0}
Rising (x ∷ xs) = RisingFrom x xs
