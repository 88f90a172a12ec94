-- The same places in another order, however they are ranked.
use Rattle.std.proofs.Common.{◌≡◌, ℕ, zero, suc, ◌<◌, false, List, [], ◌∷◌, ◌++◌, All, IsPermutation}
use Rattle.std.proofs.Common.{get_or, length, map, sym, ap, ◌∙◌, subst, arith}
use Rattle.std.proofs.lemmas.List.{get_or-map, length-map, map-append}
use Rattle.std.proofs.lemmas.List.Elements.{All-map, All-weaker}
use Rattle.std.proofs.lemmas.List.Sorted.{All-permutation, IsPermutation-append, IsPermutation-map}
use Rattle.std.proofs.lemmas.List.Sorted.{IsPermutation-trans, length_permutation}
use Rattle.std.specs.List.{AllPairs}
use Rattle.std.specs.List.Sorted.{IsStableBy}
use Rattle.prolly_sort.specs.declared.place.Place.{Place}
use Rattle.prolly_sort.specs.Place.{AreInOrder, SamePlaces, StandsIn, comes_before, is_below}
use Rattle.prolly_sort.specs.Place.{records_in, unranked}
use Rattle.prolly_sort.specs.Run.{AreDoubled, AreNeighbours, NumberedFrom}
use Rattle.prolly_sort.proofs.Numbering.{doubled_by}
use Rattle.prolly_sort.proofs.Sorting.{records_unranked}

-- What is so of places, however they are ranked, is so of the same places.
pub all_same : (P : Place → Type 0) → ((p : Place) → P p → P (unranked p)) →
    ((p : Place) → P (unranked p) → P p) → (xs ys : List Place) → SamePlaces xs ys → All P xs → All P ys
all_same P down up xs ys same all = λ k d within. up (get_or ys k d)
    (subst P (get_or-map unranked ys k d d within)
    (All-permutation P (map unranked xs) (map unranked ys) same
    (All-map P unranked xs (All-weaker P (λ p. P (unranked p)) down xs all)) k d
    (omega (arith, within, length-map ys unranked))))

pub same_long : (xs ys : List Place) → SamePlaces xs ys → length ys ≡ length xs
same_long xs ys same = sym (length-map ys unranked) ∙
    length_permutation (map unranked xs) (map unranked ys) same ∙ length-map xs unranked

pub same_append : (xs ys us vs : List Place) → SamePlaces xs ys → SamePlaces us vs →
    SamePlaces (xs ++ us) (ys ++ vs)
same_append xs ys us vs h k =
    subst (λ l. IsPermutation l (map unranked (ys ++ vs))) (sym (map-append unranked xs us))
    (subst (IsPermutation (map unranked xs ++ map unranked us)) (sym (map-append unranked ys vs))
    (IsPermutation-append (map unranked xs) (map unranked ys) (map unranked us) (map unranked vs) h k))

-- Places in another order are the same, also behind a change of how they are ranked.
pub same_in_order : (xs ys zs : List Place) → SamePlaces xs ys → IsPermutation ys zs → SamePlaces xs zs
same_in_order xs ys zs same order = IsPermutation-trans (map unranked xs) (map unranked ys)
    (map unranked zs) same (IsPermutation-map unranked ys zs order)

pub same_trans : (xs ys zs : List Place) → SamePlaces xs ys → SamePlaces ys zs → SamePlaces xs zs
same_trans xs ys zs = IsPermutation-trans (map unranked xs) (map unranked ys) (map unranked zs)

pub numbered_unranked : (n : ℕ) (places : List Place) → NumberedFrom n places →
    NumberedFrom n (map unranked places)
numbered_unranked n [] h = tt
numbered_unranked n (p ∷ places) h = (h.0, numbered_unranked (suc n) places h.1)

pub in_order_unranked : (bytes : List ℕ) (places : List Place) → AreInOrder bytes places →
    AllPairs (λ p q. comes_before bytes q p ≡ false) (map unranked places)
in_order_unranked bytes places all = λ i j d less within.
    let high : j < length places = omega (arith, within, length-map places unranked) in
    subst (λ q. comes_before bytes q (get_or (map unranked places) i d) ≡ false)
    (sym (get_or-map unranked places j d d high))
    (subst (λ p. comes_before bytes (get_or places j d) p ≡ false)
    (sym (get_or-map unranked places i d d (omega (arith, less, high)))) (all i j d less high).order)

module _ (bytes : List ℕ) (xs ys : List Place) (same : SamePlaces xs ys) where
  stands_unranked : (p : Place) → StandsIn bytes p → StandsIn bytes (unranked p)
  stands_unranked p h = record {
    ordered = h.ordered;
    within = h.within;
    spelled = h.spelled;
    lawful = h.lawful;
  }

  stands_ranked : (p : Place) → StandsIn bytes (unranked p) → StandsIn bytes p
  stands_ranked p h = record {
    ordered = h.ordered;
    within = h.within;
    spelled = h.spelled;
    lawful = h.lawful;
  }

  -- Places that are sorted stand where they stood.
  pub still_stand : All (StandsIn bytes) xs → All (StandsIn bytes) ys
  still_stand = all_same (StandsIn bytes) stands_unranked stands_ranked xs ys same

  -- Neighbours with one key among them are two records with one key.
  pub doubled_same : (p q : Place) → NumberedFrom zero xs →
      IsStableBy (is_below bytes) (map unranked xs) (map unranked ys) → AreNeighbours bytes ys p q →
      AreDoubled (records_in bytes xs) p.number q.number
  doubled_same p q numbered stable two = subst (λ rs. AreDoubled rs p.number q.number)
      (records_unranked bytes xs)
      (doubled_by bytes (map unranked xs) (map unranked ys) (unranked p) (unranked q)
      (numbered_unranked zero xs numbered) same stable (record {
        at = two.at;
        within = omega (arith, two.within, length-map ys unranked);
        one_is = λ d. get_or-map unranked ys two.at d d (omega (arith, two.within)) ∙
            ap unranked (two.one_is d);
        next_is = λ d. get_or-map unranked ys (suc two.at) d d two.within ∙ ap unranked (two.next_is d);
        same = two.same;
      }))
