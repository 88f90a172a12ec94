-- The numbers of places, and places with one key.
use Rattle.std.proofs.Common.{◌≡◌, ℕ, zero, suc, ◌+◌, ◌<◌, ◌≤◌, Bool, true, false, cond, List, []}
use Rattle.std.proofs.Common.{◌∷◌, ◌++◌, filter, length, get_or, take, drop, refl, sym, ap, ◌∙◌}
use Rattle.std.proofs.Common.{subst, arith, All, IsPermutation}
use Rattle.std.proofs.lemmas.List.{get_or-map, length-map}
use Rattle.std.proofs.lemmas.List.Elements.{filter-append}
use Rattle.std.proofs.lemmas.List.Sorted.{All-permutation}
use Rattle.std.specs.List.Sorted.{IsStableBy}
use Rattle.std.specs.Ordering.{is_eq}
use Rattle.prolly_entry.specs.Keys.{key_order}
use Rattle.prolly_entry.specs.Record.{Record}
use Rattle.prolly_entry.specs.lemmas.Orders.{order_self}
use Rattle.prolly_sort.specs.declared.place.Place.{Place}
use Rattle.prolly_sort.specs.Place.{is_below, key_in, record_in, records_in}
use Rattle.prolly_sort.specs.Run.{AreDoubled, AreNeighbours, NumberedFrom}
use Rattle.prolly_sort.proofs.Sorting.{is_of, those_stay}

-- Numbers go on with one more place.
pub numbered_more : (n : ℕ) (places : List Place) (p : Place) → NumberedFrom n places →
    p.number ≡ n + length places → NumberedFrom n (places ++ p ∷ [])
numbered_more n [] p h e = (omega (arith, e), tt)
numbered_more n (q ∷ places) p h e = (h.0, numbered_more (suc n) places p h.1 (omega (arith, e)))

-- The numbers are that of the first, and how far the place is behind it.
pub number_at : (n : ℕ) (places : List Place) (i : ℕ) (d : Place) → NumberedFrom n places →
    i < length places → (get_or places i d).number ≡ n + i
number_at n [] i d h l = absurd (omega arith)
number_at n (p ∷ places) zero d h l = omega (arith, h.0)
number_at n (p ∷ places) (suc i) d h l = number_at (suc n) places i d h.1 (omega arith) ∙ omega arith

-- ---- numbers that rise

-- Each number is greater than the one before it, the first one at least n.
abbrev NumbersRise : ℕ → List Place → Type 0
NumbersRise n [] = Unit {0}
NumbersRise n (p ∷ places) = (n ≤ p.number) × NumbersRise (suc p.number) places

rise_from : (m n : ℕ) (places : List Place) → m ≤ n → NumbersRise n places → NumbersRise m places
rise_from m n [] h k = tt
rise_from m n (p ∷ places) h k = (omega (arith, k.0), k.1)

numbered_rise : (n : ℕ) (places : List Place) → NumberedFrom n places → NumbersRise n places
numbered_rise n [] h = tt
numbered_rise n (p ∷ places) h = (
  omega (arith, h.0),
  rise_from (suc p.number) (suc n) places (omega (arith, h.0)) (numbered_rise (suc n) places h.1),
)

kept_rise : (f : Place → Bool) (n : ℕ) (places : List Place) → NumbersRise n places →
    NumbersRise n (filter f places)
kept_rise f n [] h = tt
kept_rise f n (p ∷ places) h = go (f p) (kept_rise f (suc p.number) places h.1)
  where
    go : (b : Bool) → NumbersRise (suc p.number) (filter f places) →
        NumbersRise n (cond b (p ∷ filter f places) (filter f places))
    go true k = (h.0, k)
    go false k = rise_from n (suc p.number) (filter f places) (omega (arith, h.0)) k

side_by_side : (n : ℕ) (before after : List Place) (p q : Place) →
    NumbersRise n (before ++ p ∷ q ∷ after) → p.number < q.number
side_by_side n [] after p q h = omega (arith, h.1.0)
side_by_side n (t ∷ before) after p q h = side_by_side (suc t.number) before after p q h.1

-- ---- two places side by side

parted : (places : List Place) (k : ℕ) (p q : Place) → suc k < length places →
    get_or places k p ≡ p → get_or places (suc k) q ≡ q →
    places ≡ take k places ++ p ∷ q ∷ drop (suc (suc k)) places
parted [] k p q l e f = absurd (omega arith)
parted (x ∷ []) k p q l e f = absurd (omega arith)
parted (x ∷ y ∷ places) zero p q l e f = ap (λ z. z ∷ y ∷ places) e ∙ ap (λ z. p ∷ z ∷ places) f
parted (x ∷ y ∷ places) (suc k) p q l e f = ap (λ ps. x ∷ ps)
    (parted (y ∷ places) k p q (omega arith) e f)

two_kept : (f : Place → Bool) (before after : List Place) (p q : Place) → f p ≡ true → f q ≡ true →
    filter f (before ++ p ∷ q ∷ after) ≡ filter f before ++ p ∷ q ∷ filter f after
two_kept f before after p q e k = filter-append f before (p ∷ q ∷ after) ∙
    ap (λ ps. filter f before ++ ps)
    (ap (λ b. cond b (p ∷ filter f (q ∷ after)) (filter f (q ∷ after))) e ∙
    ap (λ b. p ∷ cond b (q ∷ filter f after) (filter f after)) k)

key_is : (bytes : List ℕ) (p q : Place) → key_in bytes q ≡ key_in bytes p →
    is_of bytes (key_in bytes p) q ≡ true
key_is bytes p q e = ap (λ k. is_eq (key_order k (key_in bytes p))) e ∙
    ap is_eq (order_self (key_in bytes p))

-- Of neighbours with one key, in places that were sorted, the first one came first.
came_first : (bytes : List ℕ) (xs ys : List Place) (p q : Place) → NumberedFrom zero xs →
    IsPermutation xs ys → IsStableBy (is_below bytes) xs ys → AreNeighbours bytes ys p q →
    p.number < q.number
came_first bytes xs ys p q numbered same stable two =
    let f : Place → Bool = is_of bytes (key_in bytes p) in
    let before = take two.at ys in
    let after = drop (suc (suc two.at)) ys in
    let split : ys ≡ before ++ p ∷ q ∷ after = parted ys two.at p q two.within (two.one_is p)
    (two.next_is q) in
    let rise : NumbersRise zero (filter f ys) = subst (NumbersRise zero)
    (sym (those_stay bytes (key_in bytes p) xs ys same stable))
    (kept_rise f zero xs (numbered_rise zero xs numbered)) in
    side_by_side zero (filter f before) (filter f after) p q (subst (NumbersRise zero)
    (ap (filter f) split ∙ two_kept f before after p q (key_is bytes p p refl)
    (key_is bytes p q (sym two.same))) rise)

-- ---- the records of numbers

-- The number of the place is that of its record.
record IsNumbered (bytes : List ℕ) (xs : List Place) (p : Place) : Type 0 where
  within : p.number < length xs
  there : (d : Record) → get_or (records_in bytes xs) p.number d ≡ record_in bytes p

all_numbered : (bytes : List ℕ) (xs : List Place) → NumberedFrom zero xs →
    All (IsNumbered bytes xs) xs
all_numbered bytes xs h i d l =
    let n : (get_or xs i d).number ≡ i = number_at zero xs i d h l ∙ omega arith in
    record {
      within = omega (arith, n);
      there = λ e. ap (λ k. get_or (records_in bytes xs) k e) n ∙
          get_or-map (record_in bytes) xs i d e l;
    }

-- Neighbours with one key, in places that were sorted, are two records with one key.
pub doubled_by : (bytes : List ℕ) (xs ys : List Place) (p q : Place) → NumberedFrom zero xs →
    IsPermutation xs ys → IsStableBy (is_below bytes) xs ys → AreNeighbours bytes ys p q →
    AreDoubled (records_in bytes xs) p.number q.number
doubled_by bytes xs ys p q numbered same stable two =
    let all : All (IsNumbered bytes xs) ys = All-permutation (IsNumbered bytes xs) xs ys same
    (all_numbered bytes xs numbered) in
    let one : IsNumbered bytes xs p = subst (IsNumbered bytes xs) (two.one_is p)
    (all two.at p (omega (arith, two.within))) in
    let next : IsNumbered bytes xs q = subst (IsNumbered bytes xs) (two.next_is q)
    (all (suc two.at) q two.within) in
    record {
      order = came_first bytes xs ys p q numbered same stable two;
      within = omega (arith, next.within, length-map xs (record_in bytes));
      same = λ d. ap (λ r. r.key) (one.there d) ∙ two.same ∙ sym (ap (λ r. r.key) (next.there d));
    }
