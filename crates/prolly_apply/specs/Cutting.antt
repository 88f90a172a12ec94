-- How the leaves of an old tree are cut.
use Rattle.std.specs.Prelude.{◌≡◌, ℕ, ◌+◌, ◌<◌, ◌≤◌, ◌⊎◌, Bool, true, false, List, [], ◌∷◌, ◌++◌}
use Rattle.std.specs.Prelude.{length, take, drop}
use Rattle.std.specs.List.{AllByRecursion}
use Rattle.prolly_entry.specs.Cut.{Cut}
use Rattle.prolly_entry.specs.Pair.{Pair}
use Rattle.prolly_tree.specs.Split.{AllButLast, last_passes}
use Rattle.prolly_tree.specs.Tree.{pair_is_boundary}
use Rattle.prolly_chunk.specs.LeafLevel.{is_whole_leaf}
use Rattle.prolly_apply.specs.declared.cutting.Cutting.{Cutting}

-- No pair of the leaf before the last one is a boundary.
abbrev pub NoneInside : Cut → List Pair → Type 0
NoneInside cut leaf = AllButLast (λ p. pair_is_boundary cut p ≡ false) leaf

-- The last pair of the leaf is a boundary.
abbrev pub EndsAtBoundary : Cut → List Pair → Type 0
EndsAtBoundary cut leaf = last_passes (pair_is_boundary cut) leaf ≡ true

-- The leaves are cut so, as those of a map are: each but the last one ends with the only boundary
-- that it has, and the last one has none before its last pair.
abbrev pub AreCut : Cut → List (List Pair) → Type 0
AreCut cut [] = Unit {0}
AreCut cut (leaf ∷ []) = NoneInside cut leaf
AreCut cut (leaf ∷ next ∷ leaves) = (is_whole_leaf cut leaf ≡ true) × AreCut cut (next ∷ leaves)

-- Of so many leaves each pair is tested.
abbrev pub tested_leaves : ℕ
tested_leaves = 40

-- No leaf behind those has a boundary before its last pair.
abbrev pub RestAreCut : Cut → List (List Pair) → Type 0
RestAreCut cut leaves = AllByRecursion (NoneInside cut) (drop tested_leaves leaves)

-- What is seen of the leaves: of the first ones, none has a boundary before its last pair; and each
-- but the last ends with one.
pub record AreSeen (cut : Cut) (leaves : List (List Pair)) : Type 0 where
  pub inside : AllByRecursion (NoneInside cut) (take tested_leaves leaves)
  pub ends : AllButLast (EndsAtBoundary cut) leaves

-- ---- leaf by leaf

-- The leaf comes behind one that ended with a boundary, or is the first. If not enough were tested
-- before, no pair of it before the last one is a boundary.
pub record IsAdmitted (cut : Cut) (leaf : List Pair) (old new : Cutting) : Type 0 where
  pub was : old.ended ≡ true
  pub ended : new.ended ≡ last_passes (pair_is_boundary cut) leaf
  pub inside : old.tested < tested_leaves → NoneInside cut leaf × (new.tested ≡ old.tested + 1)
  pub beyond : tested_leaves ≤ old.tested → new.tested ≡ old.tested

-- It is so; or the leaf is not cut as one of a map behind those before it.
abbrev pub Admits : Cut → List Pair → Cutting → Cutting → Bool → Type 0
Admits cut leaf old new true = IsAdmitted cut leaf old new
Admits cut leaf old new false = (old.ended ≡ false) ⊎ (NoneInside cut leaf → ⊥)

-- So much was seen of the leaves so far.
pub record Seen (cut : Cut) (leaves : List (List Pair)) (cutting : Cutting) : Type 0 where
  pub few : cutting.tested < tested_leaves → cutting.tested ≡ length leaves
  pub most : cutting.tested ≤ length leaves
  pub are : AreSeen cut leaves
  pub ended : cutting.ended ≡ true → AllByRecursion (EndsAtBoundary cut) leaves
  pub last : cutting.ended ≡ false → (next : List Pair) (more : List (List Pair)) →
      AreCut cut (leaves ++ next ∷ more) → ⊥
