-- Places that are ranked behind a front which their keys have in common.
use Rattle.std.proofs.Common.{◌≡◌, ℕ, zero, suc, ◌+◌, ◌<◌, ◌≤◌, Bool, true, false, cond, List, [], ◌∷◌, ◌++◌}
use Rattle.std.proofs.Common.{All, IsPermutation, drop, get_or, length, map, min, nat_eq, set, take, refl, sym, ap}
use Rattle.std.proofs.Common.{◌∙◌, arith, length-append, append-nil, subst}
use Rattle.std.proofs.lemmas.Bool.Decides.{Decides-eqb}
use Rattle.std.proofs.lemmas.List.{drop_all, take_all, take_more}
use Rattle.std.proofs.lemmas.List.Edits.{map_over_more}
use Rattle.std.proofs.lemmas.List.Elements.{All-map, All-push, All-weaker}
use Rattle.std.proofs.lemmas.List.Sorted.{IsPermutation-refl}
use Rattle.std.specs.List.{common_prefix_len}
use Rattle.prolly_entry.specs.Prefix.{IsPrefix}
use Rattle.prolly_entry.specs.lemmas.Lists.{prefix_trans}
use Rattle.prolly_sort.specs.declared.place.Place.{Place}
use Rattle.prolly_sort.specs.Place.{SamePlaces, WereRanked, key_in, prefix_of, ranked_behind, unranked}
use Rattle.prolly_sort.proofs.Lasting.{same_there}
use Rattle.prolly_sort.proofs.Prefixes.{IsRanked}

-- ---- fronts

-- The front that two lists have in common, as long as it is, is one of both.
pub front_of_both : (x y : List ℕ) → IsPrefix (take (common_prefix_len nat_eq x y) x) x ×
    IsPrefix (take (common_prefix_len nat_eq x y) x) y
front_of_both [] y = (([], refl), (y, refl))
front_of_both (a ∷ x) [] = ((a ∷ x, refl), ([], refl))
front_of_both (a ∷ x) (b ∷ y) =
    go (nat_eq a b) refl (common_prefix_len nat_eq x y) (front_of_both x y)
  where
    go : (same : Bool) → nat_eq a b ≡ same → (n : ℕ) → IsPrefix (take n x) x × IsPrefix (take n x) y →
        IsPrefix (take (cond same (1 + n) 0) (a ∷ x)) (a ∷ x) ×
        IsPrefix (take (cond same (1 + n) 0) (a ∷ x)) (b ∷ y)
    go true e n (h, k) =
        let next : suc n ≡ 1 + n = omega arith in
        subst (λ m. IsPrefix (take m (a ∷ x)) (a ∷ x) × IsPrefix (take m (a ∷ x)) (b ∷ y)) next (
          (h.0, ap (λ l. a ∷ l) h.1),
          (k.0, ap (λ l. b ∷ l) k.1 ∙ ap (λ c. c ∷ (take n x ++ k.0)) (sym ((Decides-eqb a b).0 e))),
        )
    go false e n both = ((a ∷ x, refl), (b ∷ y, refl))

-- A front of the first places' keys and of the next one's is one of all these keys.
pub front_of_more : (bytes front next : List ℕ) (places : List Place) (i : ℕ) (d : Place) →
    i < length places →
    next ≡ take (common_prefix_len nat_eq front (key_in bytes (get_or places i d))) front →
    All (λ p. IsPrefix front (key_in bytes p)) (take i places) →
    All (λ p. IsPrefix next (key_in bytes p)) (take (i + 1) places)
front_of_more bytes front next places i d within is all =
    let key = key_in bytes (get_or places i d) in
    let both = front_of_both front key in
    let P : Place → Type 0 = λ p. IsPrefix next (key_in bytes p) in
    subst (All P) (sym (take_more places i d within))
    (All-push P (take i places) (get_or places i d)
    (All-weaker (λ p. IsPrefix front (key_in bytes p)) P
    (λ p h. prefix_trans next front (key_in bytes p) (subst (λ f. IsPrefix f front) (sym is) both.0) h)
    (take i places) all) (subst (λ f. IsPrefix f key) (sym is) both.1))

nothing_with_none : (x : List ℕ) → common_prefix_len nat_eq x [] ≡ 0
nothing_with_none [] = refl
nothing_with_none (a ∷ x) = refl

-- Where one of two lists ends they have nothing more in common.
pub nothing_more : (x y : List ℕ) (n : ℕ) → min (length x) (length y) ≤ n →
    common_prefix_len nat_eq (drop n x) (drop n y) ≡ 0
nothing_more [] y zero h = refl
nothing_more [] y (suc n) h = refl
nothing_more (a ∷ x) [] zero h = refl
nothing_more (a ∷ x) [] (suc n) h = nothing_with_none (drop n x)
nothing_more (a ∷ x) (b ∷ y) zero h = absurd (omega (arith, h))
nothing_more (a ∷ x) (b ∷ y) (suc n) h = nothing_more x y n (omega (arith, h))

-- ---- places that were ranked

same_unranked : (bytes : List ℕ) (n : ℕ) (places : List Place) →
    map unranked (map (ranked_behind n bytes) places) ≡ map unranked places
same_unranked bytes n [] = refl
same_unranked bytes n (p ∷ places) = ap (λ ps. unranked p ∷ ps) (same_unranked bytes n places)

module _ (bytes : List ℕ) (xs ys : List Place) (h : WereRanked bytes xs ys) where
  -- They are ranked,
  pub all_ranked_behind : All (IsRanked bytes h.front) ys
  all_ranked_behind = subst (All (IsRanked bytes h.front)) (sym h.new_are)
      (All-map (IsRanked bytes h.front) (ranked_behind (length h.front) bytes) xs
      (All-weaker (λ p. IsPrefix h.front (key_in bytes p))
      (λ p. IsRanked bytes h.front (ranked_behind (length h.front) bytes p))
      (λ p shares. record { shares = shares; begins = refl }) xs h.shared))

  -- and the places that they were.
  pub same_ranked : SamePlaces xs ys
  same_ranked = subst (IsPermutation (map unranked xs))
      (sym (ap (map unranked) h.new_are ∙ same_unranked bytes (length h.front) xs))
      (IsPermutation-refl (map unranked xs))

-- ---- a loop that ranks

-- The place with another number.
abbrev with_prefix : ℕ → Place → Place
with_prefix prefix p = record {
  prefix = prefix;
  number = p.number;
  start = p.start;
  end = p.end;
  key_len = p.key_len;
  is_put = p.is_put;
}

-- The place at which it stands is the old one.
not_ranked_yet : (f : Place → Place) (places : List Place) (i : ℕ) (d : Place) →
    get_or (map f (take i places) ++ drop i places) i d ≡ get_or places i d
not_ranked_yet f [] zero d = refl
not_ranked_yet f [] (suc i) d = refl
not_ranked_yet f (p ∷ places) zero d = refl
not_ranked_yet f (p ∷ places) (suc i) d = not_ranked_yet f places i d

module _ (bytes : List ℕ) (n : ℕ) (old now : List Place) (i : ℕ) (d : Place) (within : i < length old)
    (is : now ≡ map (ranked_behind n bytes) (take i old) ++ drop i old) where
  -- A front of all keys is no longer than the key there.
  pub front_fits : (front key : List ℕ) → All (λ p. IsPrefix front (key_in bytes p)) old →
      key ≡ key_in bytes (get_or now i d) → length front ≤ length key
  front_fits front key all there =
      let (rest, e) = all i d within in
      let same : get_or now i d ≡ get_or old i d = ap (λ ps. get_or ps i d) is ∙
      not_ranked_yet (ranked_behind n bytes) old i d in
      omega (
        arith,
        ap length there,
        ap (λ p. length (key_in bytes p)) same,
        ap length e,
        length-append front rest,
      )

  -- With its number it is ranked.
  pub ranked_more : (prefix : ℕ) → i < length now →
      prefix ≡ prefix_of 8 (drop n (key_in bytes (get_or now i d))) →
      set now i (with_prefix prefix (get_or now i d)) ≡
      map (ranked_behind n bytes) (take (i + 1) old) ++ drop (i + 1) old
  ranked_more prefix inside e = ap (λ k. set now i (with_prefix k (get_or now i d))) e ∙
      map_over_more (ranked_behind n bytes) old now i (get_or now i d) within is
      (same_there now i d (get_or now i d) inside)

-- At its end all places are ranked.
pub all_ranked : (bytes front : List ℕ) (old now : List Place) (i : ℕ) →
    All (λ p. IsPrefix front (key_in bytes p)) old → length now ≡ length old → length now ≤ i →
    now ≡ map (ranked_behind (length front) bytes) (take i old) ++ drop i old →
    WereRanked bytes old now
all_ranked bytes front old now i shared few done is =
    let f = ranked_behind (length front) bytes in
    record {
      front = front;
      shared = shared;
      new_are = is ∙ ap (λ ps. map f ps ++ drop i old) (take_all i old (omega (arith, few, done))) ∙
          ap (λ ps. map f old ++ ps) (drop_all i old (omega (arith, few, done))) ∙
          append-nil (map f old);
    }
