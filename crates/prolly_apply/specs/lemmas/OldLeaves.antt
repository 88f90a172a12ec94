-- How the leaves of a map are cut.
use Rattle.std.proofs.Common.{◌≡◌, ℕ, zero, suc, ◌<◌, Bool, true, false, not, ◌&&◌, List, [], ◌∷◌, ◌++◌}
use Rattle.std.proofs.Common.{length, drop, refl, sym, ap, ◌∙◌, subst, arith}
use Rattle.std.specs.List.{AllByRecursion}
use Rattle.std.proofs.lemmas.Bool.{le-leb}
use Rattle.std.proofs.lemmas.Grind.{flat_map-append}
use Rattle.prolly_chunk.specs.LeafLevel.{is_whole_leaf}
use Rattle.prolly_entry.specs.Cut.{Cut}
use Rattle.prolly_entry.specs.Pair.{Pair}
use Rattle.prolly_entry.specs.Prefix.{IsPrefix}
use Rattle.prolly_laws.specs.Splits.{open_rest_of, parts, split_parts, split_splits}
use Rattle.prolly_root_diff.specs.Leaves.{full_leaves, with_pairs}
use Rattle.prolly_tree.specs.Split.{split}
use Rattle.prolly_tree.specs.Tree.{leaves_of, pair_is_boundary}
use Rattle.prolly_tree.specs.lemmas.Splits.{AllEnd, Ends, Open, as_group, closes}
use Rattle.prolly_apply.specs.Cutting.{AreCut, NoneInside, RestAreCut, tested_leaves}
use Rattle.prolly_apply.specs.Taking.{pairs_of}

-- Both hold of such a test.
pub not_and : (a b : Bool) → (not a && b) ≡ true → (a ≡ false) × (b ≡ true)
not_and false b e = (refl, e)
not_and true b e = cc

module _ (cut : Cut) where
  -- Of a leaf that ends with its only boundary no pair before the last one is one.
  pub whole_inside : (leaf : List Pair) → is_whole_leaf cut leaf ≡ true → NoneInside cut leaf
  whole_inside [] h = tt
  whole_inside (p ∷ []) h = tt
  whole_inside (p ∷ q ∷ leaf) h =
      let b = not_and (pair_is_boundary cut p) (is_whole_leaf cut (q ∷ leaf)) h in
      (b.0, whole_inside (q ∷ leaf) b.1)

  -- ---- the groups of a split

  -- an entry closes a group where it is a boundary
  closes_one : (before : ℕ) (p : Pair) →
      closes (pair_is_boundary cut) 1 before p ≡ pair_is_boundary cut p
  closes_one before p = ap (λ b. b && pair_is_boundary cut p)
      (le-leb 1 (suc before) (omega arith))

  -- a closed group
  whole : (before : ℕ) (leaf : List Pair) → Ends (pair_is_boundary cut) 1 before leaf →
      is_whole_leaf cut leaf ≡ true
  whole before [] h = absurd h
  whole before (p ∷ []) h = sym (closes_one before p) ∙ h
  whole before (p ∷ q ∷ leaf) h =
      rw (sym (closes_one before p) ∙ h.0) (whole (suc before) (q ∷ leaf) h.1)

  -- the open one
  inside : (before : ℕ) (leaf : List Pair) → Open (pair_is_boundary cut) 1 before leaf →
      NoneInside cut leaf
  inside before [] h = tt
  inside before (p ∷ []) h = tt
  inside before (p ∷ q ∷ leaf) h =
      (sym (closes_one before p) ∙ h.0, inside (suc before) (q ∷ leaf) h.1)

  cut_more : (leaf : List Pair) (leaves : List (List Pair)) → is_whole_leaf cut leaf ≡ true →
      AreCut cut leaves → AreCut cut (leaf ∷ leaves)
  cut_more leaf [] h k = whole_inside leaf h
  cut_more leaf (next ∷ leaves) h k = (h, k)

  groups_are_cut : (groups : List (List Pair)) (rest : List Pair) →
      AllEnd (pair_is_boundary cut) 1 0 groups → Open (pair_is_boundary cut) 1 0 rest →
      AreCut cut (groups ++ as_group rest)
  groups_are_cut [] [] ends h = tt
  groups_are_cut [] (p ∷ rest) ends h = inside 0 (p ∷ rest) h
  groups_are_cut (group ∷ groups) rest ends h =
      cut_more group (groups ++ as_group rest) (whole 0 group ends.0)
      (groups_are_cut groups rest ends.1 h)

  split_is_cut : (m : List Pair) → AreCut cut (split (pair_is_boundary cut) 1 m)
  split_is_cut m =
      let p = parts (pair_is_boundary cut) 1 m in
      let rest = open_rest_of (pair_is_boundary cut) 1 m p in
      subst (λ xs. AreCut cut (split (pair_is_boundary cut) 1 xs)) p.whole
      (subst (AreCut cut) (sym (split_parts (pair_is_boundary cut) 1 p.groups p.rest p.ends rest))
      (groups_are_cut p.groups p.rest p.ends rest))

-- ---- the leaves of a map

all_have : (groups : List (List Pair)) → AllByRecursion (λ group. 0 < length group) groups →
    with_pairs groups ≡ groups
all_have [] h = refl
all_have ([] ∷ groups) h = absurd (let none : 0 < 0 = h.0 in omega arith)
all_have ((p ∷ ps) ∷ groups) h = ap (λ ls. (p ∷ ps) ∷ ls) (all_have groups h.1)

groups_have : (groups : List (List Pair)) → AllByRecursion (λ group. 0 < length group) groups →
    with_pairs (leaves_of groups) ≡ groups
groups_have [] h = refl
groups_have (group ∷ groups) h = all_have (group ∷ groups) h

-- Those that have pairs are the groups of the split of its pairs.
pub leaves_are_split : (cut : Cut) (m : List Pair) →
    full_leaves cut m ≡ split (pair_is_boundary cut) 1 m
leaves_are_split cut m = groups_have (split (pair_is_boundary cut) 1 m)
    (split_splits (pair_is_boundary cut) 1 m).nonempty

-- They are cut as the leaves of an old tree should be.
pub leaves_are_cut : (cut : Cut) (m : List Pair) → AreCut cut (full_leaves cut m)
leaves_are_cut cut m = subst (AreCut cut) (sym (leaves_are_split cut m)) (split_is_cut cut m)

-- Their pairs are the map.
pub pairs_are : (cut : Cut) (m : List Pair) → pairs_of (full_leaves cut m) ≡ m
pairs_are cut m = ap pairs_of (leaves_are_split cut m) ∙
    (split_splits (pair_is_boundary cut) 1 m).whole

-- ---- the first leaves

cut_front : (cut : Cut) (first rest : List (List Pair)) → AreCut cut (first ++ rest) →
    AreCut cut first
cut_front cut [] rest h = tt
cut_front cut (leaf ∷ []) [] h = h
cut_front cut (leaf ∷ []) (next ∷ rest) h = whole_inside cut leaf h.0
cut_front cut (leaf ∷ next ∷ first) rest h = (h.0, cut_front cut (next ∷ first) rest h.1)

-- The first of leaves that are cut so are cut so.
pub first_are_cut : (cut : Cut) (first leaves : List (List Pair)) → IsPrefix first leaves →
    AreCut cut leaves → AreCut cut first
first_are_cut cut first leaves front h = cut_front cut first front.0 (subst (AreCut cut) front.1 h)

-- The pairs of the first leaves come first.
pub first_pairs : (first leaves : List (List Pair)) → IsPrefix first leaves →
    IsPrefix (pairs_of first) (pairs_of leaves)
first_pairs first leaves front =
    (pairs_of front.0, ap pairs_of front.1 ∙ flat_map-append (λ leaf. leaf) first front.0)

-- ---- those that are not tested

all_inside : (cut : Cut) (leaves : List (List Pair)) → AreCut cut leaves →
    AllByRecursion (NoneInside cut) leaves
all_inside cut [] h = tt
all_inside cut (leaf ∷ []) h = (h, tt)
all_inside cut (leaf ∷ next ∷ leaves) h =
    (whole_inside cut leaf h.0, all_inside cut (next ∷ leaves) h.1)

all_behind : {A : Type 0} (P : A → Type 0) (n : ℕ) (xs : List A) → AllByRecursion P xs →
    AllByRecursion P (drop n xs)
all_behind P zero xs h = h
all_behind P (suc n) [] h = tt
all_behind P (suc n) (x ∷ xs) h = all_behind P n xs h.1

-- What is not tested of leaves that are cut so is so.
pub rest_are_cut : (cut : Cut) (leaves : List (List Pair)) → AreCut cut leaves →
    RestAreCut cut leaves
rest_are_cut cut leaves h = all_behind (NoneInside cut) tested_leaves leaves
    (all_inside cut leaves h)
