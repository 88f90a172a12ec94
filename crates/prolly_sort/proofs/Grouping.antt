-- Places that are sorted group by group.
use Rattle.std.proofs.Common.{◌≡◌, ℕ, suc, ◌+◌, ◌<◌, ◌≤◌, List, [], ◌∷◌, ◌++◌}
use Rattle.std.proofs.Common.{All, IsSortedBy, drop, get_or, is_lt, length, take}
use Rattle.std.proofs.Common.{sym, ap, ◌∙◌, subst, arith, take-add}
use Rattle.std.proofs.lemmas.List.{drop-drop, get_or-drop, get_or-take, length-drop}
use Rattle.std.proofs.lemmas.List.{length-take, take_all}
use Rattle.std.proofs.lemmas.List.Elements.{All-append, All-drop, All-tail, All-take}
use Rattle.std.proofs.lemmas.List.Elements.{All-weaker}
use Rattle.std.proofs.lemmas.List.Sorted.{IsNonDecreasingBy-drop, sorted_far}
use Rattle.std.proofs.lemmas.List.Kept.{AllPairs-cons}
use Rattle.std.proofs.lemmas.Slice.{drop-put_mid, take-put_mid}
use borrow.Rule.Slice.PartMut.{mid_of, put_mid, same_len_mid}
use Rattle.std.specs.List.Sorted.{IsNonDecreasingBy}
use Rattle.std.specs.Ordering.{nat_cmp, ordering_then}
use Rattle.prolly_entry.specs.Byte.{IsByte}
use Rattle.prolly_entry.specs.Keys.{KeyBelow}
use Rattle.prolly_entry.specs.lemmas.Orders.{below_greater, less_self}
use Rattle.prolly_sort.specs.declared.place.Place.{Place}
use Rattle.prolly_sort.specs.Place.{AreInOrder, IsFirstGroup, Precedes, SamePlaces, comes_before}
use Rattle.prolly_sort.specs.Place.{key_in, prefix_of}
use Rattle.prolly_sort.proofs.Lasting.{same_there}
use Rattle.prolly_sort.proofs.Prefixes.{IsRanked, ranked_below}
use Rattle.prolly_sort.proofs.Same.{all_same, same_append, same_long}
use Rattle.prolly_sort.proofs.Standing.{places_ordered}

-- ---- places apart

-- Each key of the first places is less than each of the others.
abbrev Apart : List ℕ → List Place → List Place → Type 0
Apart bytes ps qs = All (λ p. All (λ q. KeyBelow (key_in bytes p) (key_in bytes q)) qs) ps

apart_same : (bytes : List ℕ) (ps qs rs ts : List Place) → SamePlaces ps rs → SamePlaces qs ts →
    Apart bytes ps qs → Apart bytes rs ts
apart_same bytes ps qs rs ts h k apart =
    let Above : Place → Place → Type 0 = λ p q. KeyBelow (key_in bytes p) (key_in bytes q) in
    all_same (λ p. All (Above p) ts) (λ p t. t) (λ p t. t) ps rs h
    (All-weaker (λ p. All (Above p) qs) (λ p. All (Above p) ts)
    (λ p. all_same (Above p) (λ q t. t) (λ q t. t) qs ts k) ps apart)

below_precedes : (bytes : List ℕ) (p q : Place) → KeyBelow (key_in bytes p) (key_in bytes q) →
    Precedes bytes p q
below_precedes bytes p q below = record {
  order = ap (λ o. is_lt (ordering_then o (nat_cmp q.number p.number)))
      (below_greater (key_in bytes p) (key_in bytes q) below);
  alike = λ same. absurd (less_self (key_in bytes q) (subst (λ k. KeyBelow k (key_in bytes q)) same below));
}

-- Places in order behind others in order, whose keys are less, are in order.
in_order_append : (bytes : List ℕ) (ps qs : List Place) → AreInOrder bytes ps → AreInOrder bytes qs →
    Apart bytes ps qs → AreInOrder bytes (ps ++ qs)
in_order_append bytes [] qs h k apart = k
in_order_append bytes (p ∷ ps) qs h k apart = AllPairs-cons (Precedes bytes) p (ps ++ qs)
    (All-append (Precedes bytes p) ps qs (λ j d within. h 0 (suc j) d (omega arith) (omega (arith, within)))
    (λ j d within. below_precedes bytes p (get_or qs j d) (apart 0 p (omega arith) j d within)))
    (in_order_append bytes ps qs (λ i j d less within.
    h (suc i) (suc j) d (omega (arith, less)) (omega (arith, within))) k
    (All-tail (λ r. All (λ t. KeyBelow (key_in bytes r) (key_in bytes t)) qs) p ps apart))

-- Ranked places that are sorted by their keys and numbers are in order.
pub ranked_in_order : (bytes front : List ℕ) (places : List Place) → All (IsRanked bytes front) places →
    IsSortedBy (comes_before bytes) places → AreInOrder bytes places
ranked_in_order bytes front places ranked sorted = λ i j d less within.
    let low : i < length places = omega (arith, less, within) in
    record {
      order = sorted_far (comes_before bytes) (places_ordered bytes) places sorted i j d
          (omega (arith, less)) within;
      alike = λ same. (ranked i d low).begins ∙
          ap (λ k. prefix_of 8 (drop (length front) k)) same ∙ sym (ranked j d within).begins;
    }

-- ---- groups

-- The first i places are sorted, and their keys are less than those of the others, which stand as
-- they stood.
pub record IsSortedUpTo (bytes : List ℕ) (old now : List Place) (i : ℕ) : Type 0 where
  pub long : length now ≡ length old
  pub same : SamePlaces (take i old) (take i now)
  pub rest : drop i now ≡ drop i old
  pub sorted : AreInOrder bytes (take i now)
  pub apart : Apart bytes (take i old) (drop i old)

module _ (bytes : List ℕ) (are_bytes : All IsByte bytes) (front : List ℕ) where
  -- The keys of the first group are less than those of the others.
  first_apart : (places : List Place) (n : ℕ) → All (IsRanked bytes front) places →
      IsNonDecreasingBy (λ (p : Place). p.prefix) places → IsFirstGroup places n →
      Apart bytes (take n places) (drop n places)
  first_apart places n ranked up first = λ i d l j e m.
      let long = length-take n places in
      let left = length-drop n places in
      let p_is : get_or (take n places) i d ≡ get_or places i d = get_or-take n places i d (omega arith) in
      let q_is : get_or (drop n places) j e ≡ get_or places (n + j) d =
      get_or-drop n places j e ∙ same_there places (n + j) e d (omega arith) in
      let alike = first.alike i d (omega arith) in
      let ends = first.ends d (omega arith) in
      let low = up 0 n d (omega arith) (omega arith) in
      let high = up n (n + j) d (omega arith) (omega arith) in
      subst (λ p. KeyBelow (key_in bytes p) (key_in bytes (get_or (drop n places) j e))) (sym p_is)
      (subst (λ q. KeyBelow (key_in bytes (get_or places i d)) (key_in bytes q)) (sym q_is)
      (ranked_below bytes are_bytes front (get_or places i d) (get_or places (n + j) d)
      (ranked i d (omega arith)) (ranked (n + j) d (omega arith)) (omega (arith, alike, ends, low, high))))

  -- With its first group sorted, the rest of places that are ranked and in the order of their
  -- numbers is sorted one group further.
  pub group_sorted : (old now group : List Place) (i n k : ℕ) → k ≡ n →
      All (IsRanked bytes front) old → IsNonDecreasingBy (λ (p : Place). p.prefix) old →
      i ≤ length now → IsFirstGroup (drop i now) n → SamePlaces (mid_of i k now) group →
      AreInOrder bytes group → IsSortedUpTo bytes old now i →
      IsSortedUpTo bytes old (put_mid i k now group) (i + n)
  group_sorted old now group i n k e were up within first same sorted so_far =
      let rest = drop i old in
      let least : IsFirstGroup rest n = subst (λ ps. IsFirstGroup ps n) so_far.rest first in
      let part : SamePlaces (take n rest) group =
      subst (λ ps. SamePlaces (take n ps) group) so_far.rest
      (subst (λ m. SamePlaces (mid_of i m now) group) e same) in
      let long : length group ≡ n =
      omega (arith, same_long (take n rest) group part, length-take n rest, least.within) in
      let new_is : take (i + n) (put_mid i k now group) ≡ take i now ++ group =
      take-put_mid i k now group (i + n) (omega arith) within in
      let old_is : take (i + n) old ≡ take i old ++ take n rest = take-add i n old in
      let rest_is : drop (i + n) old ≡ drop n rest = sym (drop-drop n i old) in
      let Above : Place → Place → Type 0 = λ p q. KeyBelow (key_in bytes p) (key_in bytes q) in
      let above : Apart bytes (take i old) (take n rest) = All-weaker (λ p. All (Above p) rest)
      (λ p. All (Above p) (take n rest)) (λ p. All-take (Above p) n rest) (take i old) so_far.apart in
      let lesser : Apart bytes (take i now) group =
      apart_same bytes (take i old) (take n rest) (take i now) group so_far.same part above in
      let behind : Apart bytes (take i old) (drop n rest) = All-weaker (λ p. All (Above p) rest)
      (λ p. All (Above p) (drop n rest)) (λ p. All-drop (Above p) n rest) (take i old) so_far.apart in
      record {
        long = same_len_mid i k now group (same_long (mid_of i k now) group same) ∙ so_far.long;
        same = rw (new_is, old_is)
            (same_append (take i old) (take i now) (take n rest) group so_far.same part);
        rest = drop-put_mid i k now group (i + n) (omega arith) within (long ∙ sym e) ∙
            sym (drop-drop n i now) ∙ ap (drop n) so_far.rest ∙ sym rest_is;
        sorted = rw new_is (in_order_append bytes (take i now) group so_far.sorted sorted lesser);
        apart = rw (old_is, rest_is)
            (All-append (λ p. All (Above p) (drop n rest)) (take i old) (take n rest) behind (first_apart rest n
            (All-drop (IsRanked bytes front) i old were)
            (IsNonDecreasingBy-drop (λ (p : Place). p.prefix) i old up) least));
      }

-- At the end all places are the same.
pub all_are_same : (bytes : List ℕ) (old now : List Place) (i : ℕ) → length now ≤ i →
    IsSortedUpTo bytes old now i → SamePlaces old now
all_are_same bytes old now i done so_far =
    subst (λ ps. SamePlaces ps now) (take_all i old (omega (arith, done, so_far.long)))
    (subst (SamePlaces (take i old)) (take_all i now done) so_far.same)
