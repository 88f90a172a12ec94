-- Places in the order of their keys.
use Rattle.std.proofs.Common.{◌≡◌, ℕ, Bool, true, false, cond, not, ◌&&◌, List, [], ◌∷◌}
use Rattle.std.proofs.Common.{filter, map, Ordering, is_lt, is_eq, refl, sym, ap, ◌∙◌}
use Rattle.std.proofs.Common.{subst, IsPermutation, ◌⊎◌, inl, inr}
use Rattle.std.proofs.lemmas.List.Elements.{All-from_recursion}
use Rattle.std.proofs.lemmas.List.Elements.{recursion_from_All}
use Rattle.std.proofs.lemmas.List.Sorted.{All-permutation}
use Rattle.std.specs.List.{AllByRecursion}
use Rattle.std.specs.List.Sorted.{IsStableBy, ties}
use Rattle.std.specs.Ordering.{ordering_reverse}
use Rattle.std.specs.declared.cmp.Ordering.TheVariants.{Less, Equal, Greater}
use Rattle.prolly_entry.specs.Keys.{Rising, key_order}
use Rattle.prolly_entry.specs.Record.{keys_of}
use Rattle.prolly_entry.specs.lemmas.Orders.{eq_true, order_back, order_same}
use Rattle.prolly_sort.specs.declared.place.Place.{Place}
use Rattle.prolly_sort.specs.Overlaid.{overlaid}
use Rattle.prolly_sort.specs.Place.{SamePlaces, is_below, key_in, record_in, records_in, unranked}
use Rattle.prolly_sort.proofs.Coming.{has, overlaid_rises, said, said_by_those, same_come}

-- The place's key is this one.
abbrev pub is_of : List ℕ → List ℕ → Place → Bool
is_of bytes key p = is_eq (key_order (key_in bytes p) key)

neither : (o : Ordering) → (not (is_lt (ordering_reverse o)) && not (is_lt o)) ≡ is_eq o
neither Less = refl
neither Equal = refl
neither Greater = refl

-- Keys tie where they are equal.
pub tied_equal : (a b : List ℕ) →
    (not (is_lt (key_order a b)) && not (is_lt (key_order b a))) ≡ is_eq (key_order b a)
tied_equal a b = ap (λ o. not (is_lt o) && not (is_lt (key_order b a))) (order_back a b) ∙
    neither (key_order b a)

-- Places that tie with one of a key are those of the key.
tie_is : (bytes key : List ℕ) (x p : Place) → key_in bytes x ≡ key →
    ties (is_below bytes) x p ≡ is_of bytes key p
tie_is bytes key x p e = ap
    (λ k. not (is_lt (key_order k (key_in bytes p))) && not (is_lt (key_order (key_in bytes p) k))) e ∙
    tied_equal key (key_in bytes p)

-- Tests that give the same keep the same.
pub filter_alike : (f g : Place → Bool) → ((p : Place) → f p ≡ g p) → (places : List Place) →
    filter f places ≡ filter g places
filter_alike f g same [] = refl
filter_alike f g same (p ∷ places) = ap (λ b. cond b (p ∷ filter f places) (filter f places)) (same p) ∙
    ap (λ ps. cond (g p) (p ∷ ps) ps) (filter_alike f g same places)

none_kept : (f : Place → Bool) (places : List Place) → AllByRecursion (λ p. f p ≡ false) places →
    filter f places ≡ []
none_kept f [] h = refl
none_kept f (p ∷ places) h = ap (λ b. cond b (p ∷ filter f places) (filter f places)) h.0 ∙
    none_kept f places h.1

-- Some place of the list passes, or none does.
some_or_none : (f : Place → Bool) (places : List Place) →
    ((x : Place) × (f x ≡ true)) ⊎ AllByRecursion (λ p. f p ≡ false) places
some_or_none f [] = inr tt
some_or_none f (p ∷ places) = go (f p) refl (some_or_none f places)
  where
    go : (b : Bool) → f p ≡ b → ((x : Place) × (f x ≡ true)) ⊎ AllByRecursion (λ p. f p ≡ false) places
        → ((x : Place) × (f x ≡ true)) ⊎ AllByRecursion (λ p. f p ≡ false) (p ∷ places)
    go true e rest = inl (p, e)
    go false e (inl x) = inl x
    go false e (inr h) = inr (e, h)

-- A stable sort keeps the places of a key in their order.
pub those_stay : (bytes key : List ℕ) (xs ys : List Place) → IsPermutation xs ys →
    IsStableBy (is_below bytes) xs ys → filter (is_of bytes key) ys ≡ filter (is_of bytes key) xs
those_stay bytes key xs ys same stable = go (some_or_none (is_of bytes key) xs)
  where
    go : ((x : Place) × (is_of bytes key x ≡ true)) ⊎ AllByRecursion (λ p. is_of bytes key p ≡ false) xs
        → filter (is_of bytes key) ys ≡ filter (is_of bytes key) xs
    go (inl x) =
        let e : key_in bytes x.0 ≡ key = order_same (key_in bytes x.0) key
        (eq_true (key_order (key_in bytes x.0) key) x.1) in
        let alike = filter_alike (ties (is_below bytes) x.0) (is_of bytes key)
        (λ p. tie_is bytes key x.0 p e) in
        sym (alike ys) ∙ stable x.0 ∙ alike xs
    go (inr none) =
        let P : Place → Type 0 = λ p. is_of bytes key p ≡ false in
        none_kept (is_of bytes key) ys (recursion_from_All P ys
        (All-permutation P xs ys same (All-from_recursion P xs none))) ∙
        sym (none_kept (is_of bytes key) xs none)

-- The records of a key lie in the places of the key.
pub those_of_records : (bytes key : List ℕ) (places : List Place) →
    filter (has key) (records_in bytes places) ≡ records_in bytes (filter (is_of bytes key) places)
those_of_records bytes key [] = refl
those_of_records bytes key (p ∷ places) = go (is_of bytes key p) (those_of_records bytes key places)
  where
    go : (b : Bool) → filter (has key) (records_in bytes places) ≡
        records_in bytes (filter (is_of bytes key) places) →
        cond b (record_in bytes p ∷ filter (has key) (records_in bytes places))
        (filter (has key) (records_in bytes places)) ≡
        records_in bytes (cond b (p ∷ filter (is_of bytes key) places)
        (filter (is_of bytes key) places))
    go true e = ap (λ rs. record_in bytes p ∷ rs) e
    go false e = e

-- However places are ranked, they have their records.
pub records_unranked : (bytes : List ℕ) (places : List Place) →
    records_in bytes (map unranked places) ≡ records_in bytes places
records_unranked bytes [] = refl
records_unranked bytes (p ∷ places) = ap (λ rs. record_in bytes p ∷ rs) (records_unranked bytes places)

module _ (bytes : List ℕ) (xs ys : List Place) (same : SamePlaces xs ys)
    (stable : IsStableBy (is_below bytes) (map unranked xs) (map unranked ys)) where
  -- The records of a key stay in their order.
  pub same_of_key : (key : List ℕ) →
      filter (has key) (records_in bytes ys) ≡ filter (has key) (records_in bytes xs)
  same_of_key key = ap (filter (has key)) (sym (records_unranked bytes ys)) ∙
      those_of_records bytes key (map unranked ys) ∙
      ap (records_in bytes) (those_stay bytes key (map unranked xs) (map unranked ys) same stable) ∙
      sym (those_of_records bytes key (map unranked xs)) ∙
      ap (filter (has key)) (records_unranked bytes xs)

  -- Records come to the same once they are sorted.
  pub sorted_come : overlaid (records_in bytes ys) ≡ overlaid (records_in bytes xs)
  sorted_come = same_come (records_in bytes ys) (records_in bytes xs) (λ key.
      sym (said_by_those (records_in bytes ys) key) ∙ ap (λ rs. said rs key) (same_of_key key) ∙
      said_by_those (records_in bytes xs) key)

  -- What is kept of sorted places has what the records come to, and rises.
  module _ (kept : List Place) (are : records_in bytes kept ≡ overlaid (records_in bytes ys)) where
    pub kept_come : records_in bytes kept ≡ overlaid (records_in bytes xs)
    kept_come = are ∙ sorted_come

    pub kept_rises : Rising (keys_of (records_in bytes kept))
    kept_rises = subst (λ rs. Rising (keys_of rs)) (sym kept_come) (overlaid_rises (records_in bytes xs))
