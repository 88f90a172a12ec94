-- Places in the order of their keys and numbers: those of one key stand in the order in which they came.
use Rattle.std.proofs.Common.{◌≡◌, ℕ, zero, suc, ◌+◌, ◌<◌, ◌≤◌, Bool, true, false, cond, List, []}
use Rattle.std.proofs.Common.{◌∷◌, All, IsPermutation, filter, get_or, is_lt, nat_eq}
use Rattle.std.proofs.Common.{sum_by, refl, sym, ap, ◌∙◌, arith}
use Rattle.std.proofs.lemmas.Bool.Decides.{Decides-eqb}
use Rattle.std.proofs.lemmas.Cmp.{nat_cmp_total, nat_list_cmp_total, on_total, then_total}
use Rattle.std.proofs.lemmas.List.Elements.{All-cons, All-filter, All-tail, filter_passes}
use Rattle.std.proofs.lemmas.List.Kept.{AllPairs-filter}
use Rattle.std.proofs.lemmas.List.Sorted.{All-permutation, ranks_by, sum_by-IsPermutation}
use Rattle.std.proofs.lemmas.List.Sums.{sum_by-cons}
use Rattle.std.proofs.lemmas.Map.Keys.{ge_from_not_lt}
use Rattle.std.specs.Cmp.{IsStrictWeakOrder}
use Rattle.std.specs.List.{AllPairs}
use Rattle.std.specs.List.Sorted.{IsStableBy, ties}
use Rattle.std.specs.Ordering.{nat_cmp, ordering_then}
use Rattle.prolly_entry.specs.Keys.{key_order}
use Rattle.prolly_entry.specs.lemmas.Orders.{eq_true, order_same, order_self}
use Rattle.prolly_sort.specs.declared.place.Place.{Place}
use Rattle.prolly_sort.specs.Place.{comes_before, is_below, key_in}
use Rattle.prolly_sort.specs.Run.{NumberedFrom}
use Rattle.prolly_sort.proofs.Lasting.{same_there}
use Rattle.prolly_sort.proofs.Numbering.{number_at}
use Rattle.prolly_sort.proofs.Sorting.{tied_equal}

-- Keys and numbers are an order of places.
pub places_ordered : (bytes : List ℕ) → IsStrictWeakOrder (comes_before bytes)
places_ordered bytes = ranks_by (then_total (on_total (key_in bytes) nat_list_cmp_total)
    (on_total (λ (p : Place). p.number) nat_cmp_total)) (λ (p : Place). p)

-- ---- numbers that do not fall

abbrev NoMore : Place → Place → Type 0
NoMore p q = p.number ≤ q.number

-- How many places have this number.
abbrev count_of : ℕ → List Place → ℕ
count_of number [] = 0
count_of number (p ∷ places) = cond (nat_eq p.number number) 1 0 + count_of number places

none_of : (number : ℕ) (places : List Place) → All (λ p. number < p.number) places →
    count_of number places ≡ 0
none_of number [] above = refl
none_of number (p ∷ places) above = go (nat_eq p.number number) refl
    (none_of number places (All-tail (λ q. number < q.number) p places above))
  where
    go : (b : Bool) → nat_eq p.number number ≡ b → count_of number places ≡ 0 →
        cond b 1 0 + count_of number places ≡ 0
    go true e none = absurd (omega (arith, above 0 p (omega arith), (Decides-eqb p.number number).0 e))
    go false e none = omega (arith, none)

one_of : (p : Place) (places : List Place) → 1 ≤ count_of p.number (p ∷ places)
one_of p places = omega (arith, ap {B = ℕ} (λ b. cond b 1 0) (sym ((Decides-eqb p.number p.number).1 refl)))

-- The first of two lists begins with no lesser number, where both have places of the same numbers.
not_less : (x y : Place) (xs ys : List Place) → AllPairs NoMore (y ∷ ys) →
    ((number : ℕ) → count_of number (y ∷ ys) ≡ count_of number (x ∷ xs)) → x.number < y.number → ⊥
not_less x y xs ys stay counts less =
    let above : All (λ p. x.number < p.number) (y ∷ ys) = All-cons (λ p. x.number < p.number) y ys less
    (λ j d within. omega (arith, less, stay 0 (suc j) d (omega arith) (omega (arith, within)))) in
    omega (arith, counts x.number, one_of x xs, none_of x.number (y ∷ ys) above)

-- Places whose numbers do not fall are the same where their numbers are, and numbers name them.
same_staying : (there : ℕ → Place) (xs ys : List Place) → AllPairs NoMore xs → AllPairs NoMore ys →
    All (λ p. p ≡ there p.number) xs → All (λ p. p ≡ there p.number) ys →
    ((number : ℕ) → count_of number ys ≡ count_of number xs) → ys ≡ xs
same_staying there [] [] h k a b counts = refl
same_staying there [] (y ∷ ys) h k a b counts = absurd (omega (arith, counts y.number, one_of y ys))
same_staying there (x ∷ xs) [] h k a b counts = absurd (omega (arith, counts x.number, one_of x xs))
same_staying there (x ∷ xs) (y ∷ ys) h k a b counts =
    let number_is : y.number ≡ x.number = omega (
      arith,
      not_less x y xs ys k counts,
      not_less y x ys xs h (λ number. sym (counts number)),
    ) in
    let rest : ys ≡ xs = same_staying there xs ys
    (λ i j d less within. h (suc i) (suc j) d (omega (arith, less)) (omega (arith, within)))
    (λ i j d less within. k (suc i) (suc j) d (omega (arith, less)) (omega (arith, within)))
    (All-tail (λ p. p ≡ there p.number) x xs a) (All-tail (λ p. p ≡ there p.number) y ys b) (λ number.
    omega (arith, counts number, ap {B = ℕ} (λ n. cond (nat_eq n number) 1 0) number_is)) in
    ap (λ p. p ∷ ys) (b 0 y (omega arith) ∙ ap there number_is ∙ sym (a 0 x (omega arith))) ∙
    ap (λ ps. x ∷ ps) rest

-- ---- places that a test keeps

module _ (f : Place → Bool) (number : ℕ) where
  abbrev counted : Place → ℕ
  counted p = cond (f p) (cond (nat_eq p.number number) 1 0) 0

  count_kept : (places : List Place) → count_of number (filter f places) ≡ sum_by counted places
  count_kept [] = refl
  count_kept (p ∷ places) = go (f p) (count_kept places) ∙ sym (sum_by-cons counted p places)
    where
      go : (b : Bool) → count_of number (filter f places) ≡ sum_by counted places →
          count_of number (cond b (p ∷ filter f places) (filter f places)) ≡
          cond b (cond (nat_eq p.number number) 1 0) 0 + sum_by counted places
      go true e = ap (λ n. cond (nat_eq p.number number) 1 0 + n) e
      go false e = omega (arith, e)

module _ (bytes : List ℕ) (x : Place) where
  key_of_tie : (p : Place) → ties (is_below bytes) x p ≡ true → key_in bytes p ≡ key_in bytes x
  key_of_tie p e = order_same (key_in bytes p) (key_in bytes x)
      (eq_true (key_order (key_in bytes p) (key_in bytes x))
      (sym (tied_equal (key_in bytes x) (key_in bytes p)) ∙ e))

  -- Of two places of its key the later one in order has no lesser number.
  number_stays : (p q : Place) → ties (is_below bytes) x p ≡ true → ties (is_below bytes) x q ≡ true →
      comes_before bytes q p ≡ false → p.number ≤ q.number
  number_stays p q h k e =
      let same : key_in bytes q ≡ key_in bytes p = key_of_tie q k ∙ sym (key_of_tie p h) in
      let equal = ap (λ l. key_order l (key_in bytes p)) same ∙ order_self (key_in bytes p) in
      ge_from_not_lt q.number p.number
      (sym (ap (λ o. is_lt (ordering_then o (nat_cmp q.number p.number))) equal) ∙ e)

-- Places in order stand stably.
pub stable_in_order : (bytes : List ℕ) (xs ys : List Place) → NumberedFrom zero xs →
    IsPermutation xs ys → AllPairs (λ p q. comes_before bytes q p ≡ false) ys →
    IsStableBy (is_below bytes) xs ys
stable_in_order bytes xs ys numbered same sorted = λ x.
    let f : Place → Bool = ties (is_below bytes) x in
    let there : ℕ → Place = λ n. get_or xs n x in
    let Named : Place → Type 0 = λ p. p ≡ there p.number in
    let named : All Named xs = λ i d within.
    same_there xs i d x within ∙ ap there (omega (arith, number_at 0 xs i d numbered within)) in
    let passes : All (λ p. f p ≡ true) (filter f ys) = filter_passes f ys in
    let kept = AllPairs-filter (λ p q. comes_before bytes q p ≡ false) f ys sorted in
    same_staying there (filter f xs) (filter f ys)
    (AllPairs-filter NoMore f xs (λ i j d less within. omega (
      arith,
      less,
      number_at 0 xs i d numbered (omega (arith, less, within)),
      number_at 0 xs j d numbered within,
    )))
    (λ i j d less within. number_stays bytes x (get_or (filter f ys) i d) (get_or (filter f ys) j d)
    (passes i d (omega (arith, less, within))) (passes j d within) (kept i j d less within))
    (All-filter f Named xs named) (All-filter f Named ys (All-permutation Named xs ys same named))
    (λ number. count_kept f number ys ∙ sum_by-IsPermutation (counted f number) xs ys same ∙
    sym (count_kept f number xs))
