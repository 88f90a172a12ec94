-- The last place of each key, and places whose keys rise.
use Rattle.std.proofs.Common.{◌≡◌, ℕ, zero, suc, ◌+◌, ◌-◌, ◌<◌, ◌≤◌, true, false, List, [], ◌∷◌, ◌++◌}
use Rattle.std.proofs.Common.{length, get_or, take, is_lt, is_eq, refl, sym, ap, ◌∙◌, subst, arith}
use Rattle.std.proofs.Common.{None, Some, slice_get, All, Bool, cond, nat_eq, ◌&&◌, append-nil}
use Rattle.std.proofs.Common.{append_assoc}
use Rattle.std.proofs.lemmas.Bool.{false≢true}
use Rattle.std.proofs.lemmas.Bool.Decides.{Decides-eqb}
use Rattle.std.proofs.lemmas.List.Elements.{All-from_recursion, recursion_from_All}
use Rattle.std.proofs.lemmas.List.{map_push, take_more}
use Rattle.std.specs.Bool.{MatchBool}
use Rattle.std.specs.List.{AllByRecursion}
use Rattle.std.specs.List.Retain.{DedupsFrom, IsDeduped}
use Rattle.prolly_entry.specs.Keys.{key_order, Rising}
use Rattle.prolly_entry.specs.Record.{Record, keys_of}
use Rattle.prolly_entry.specs.lemmas.Orders.{eq_true, order_same}
use Rattle.prolly_sort.specs.declared.place.Place.{Place}
use Rattle.prolly_sort.specs.Overlaid.{overlaid}
use Rattle.prolly_sort.specs.Place.{AreInOrder, Precedes, have_one_key, is_below, key_in, record_in}
use Rattle.prolly_sort.specs.Place.{records_in}
use Rattle.prolly_sort.specs.Run.{AreNeighbours}
use Rattle.prolly_sort.proofs.Coming.{come_to}
use Rattle.prolly_sort.proofs.Keeping.{before_below, equal_from, kept_in_its_place, kept_with_next}
use Rattle.prolly_sort.proofs.Keeping.{last_less, rises_behind}

-- The place of a number is the same, whatever stands for one behind the end.
pub same_there : (places : List Place) (n : ℕ) (d e : Place) → n < length places →
    get_or places n d ≡ get_or places n e
same_there [] n d e l = absurd (omega arith)
same_there (p ∷ places) zero d e l = refl
same_there (p ∷ places) (suc n) d e l = same_there places n d e (omega arith)

-- Where the one place precedes the other, they have one key or its key is less.
module _ (bytes : List ℕ) (p q : Place) where
  same_key : have_one_key bytes p q ≡ true → key_in bytes p ≡ key_in bytes q
  same_key e = go (nat_eq p.prefix q.prefix) e
    where
      go : (b : Bool) → (b && is_eq (key_order (key_in bytes p) (key_in bytes q))) ≡ true →
          key_in bytes p ≡ key_in bytes q
      go true f = order_same (key_in bytes p) (key_in bytes q)
          (eq_true (key_order (key_in bytes p) (key_in bytes q)) f)
      go false f = absurd (false≢true f)

  below_key : Precedes bytes p q → have_one_key bytes p q ≡ false → is_below bytes p q ≡ true
  below_key h e = go (is_below bytes p q) refl
    where
      go : (b : Bool) → is_below bytes p q ≡ b → is_below bytes p q ≡ true
      go true f = f
      go false f =
          let equal = equal_from (key_in bytes p) (key_in bytes q) f (before_below _ _ h.order) in
          let alike = h.alike (order_same (key_in bytes p) (key_in bytes q) equal) in
          absurd (false≢true (sym e ∙
          ap (λ b. b && is_eq (key_order (key_in bytes p) (key_in bytes q)))
          ((Decides-eqb p.prefix q.prefix).1 alike) ∙ ap is_eq equal))

-- ---- the last place of each key

-- Of a place and those behind it, the last one of each key.
abbrev pub last_from : List ℕ → Place → List Place → List Place
last_from bytes p [] = p ∷ []
last_from bytes p (q ∷ places) =
    cond (have_one_key bytes p q) (last_from bytes q places) (p ∷ last_from bytes q places)

-- Of places, the last one of each key.
abbrev pub last_of_each : List ℕ → List Place → List Place
last_of_each bytes [] = []
last_of_each bytes (p ∷ places) = last_from bytes p places

module _ {F : Type 0} (R : F → Place → Place → Bool → F → Place → Place → Type 0) (bytes : List ℕ)
    (f : F) (told : (q p : Place) (b : Bool) (g : F) (left kept : Place) → R f q p b g left kept →
    (b ≡ have_one_key bytes p q) × (g ≡ f) × (left ≡ q) × (kept ≡ cond b q p)) where
  left_from : (places : List Place) (g : F) (p : Place) (ys : List Place) → g ≡ f →
      DedupsFrom R g p places ys → ys ≡ last_from bytes p places
  left_from [] g p ys e d = d
  left_from (q ∷ places) g p ys e d =
      let call = told q p d.0 d.1 d.2 d.3 (subst (λ f. R f q p d.0 d.1 d.2 d.3) e d.4) in
      go d.0 call.0 call.2 call.3 d.5 (λ x xs is rest. left_from places d.1 x xs call.1 rest ∙
      ap (λ r. last_from bytes r places) is)
    where
      go : (b : Bool) → b ≡ have_one_key bytes p q → d.2 ≡ q → d.3 ≡ cond b q p →
          MatchBool b (DedupsFrom R d.1 d.3 places ys)
          ((zs : List Place) × DedupsFrom R d.1 d.2 places zs × (ys ≡ d.3 ∷ zs)) →
          ((x : Place) (xs : List Place) → x ≡ q → DedupsFrom R d.1 x places xs →
          xs ≡ last_from bytes q places) → ys ≡ last_from bytes p (q ∷ places)
      go true k goes is rest next = next d.3 ys is rest ∙
          ap (λ b. cond b (last_from bytes q places) (p ∷ last_from bytes q places)) k
      go false k goes is rest next = rest.2 ∙ ap (λ x. x ∷ rest.0) is ∙
          ap (λ xs. p ∷ xs) (next d.2 rest.0 goes rest.1) ∙
          ap (λ b. cond b (last_from bytes q places) (p ∷ last_from bytes q places)) k

  -- What is left is the last place of each key, where a call tells whether the two have one key, and
  -- puts the next one over the one before it then.
  pub last_left : (xs ys : List Place) → IsDeduped R f xs ys → ys ≡ last_of_each bytes xs
  last_left [] ys d = d.told
  last_left (p ∷ places) ys d = left_from places f p ys refl d.told

module _ (bytes : List ℕ) where
  come_from : (came m : List Record) (p : Place) (places : List Place) →
      AreInOrder bytes (p ∷ places) → m ++ record_in bytes p ∷ [] ≡ overlaid came →
      m ++ records_in bytes (last_from bytes p places) ≡ overlaid (came ++ records_in bytes places)
  come_from came m p [] h e = e ∙ ap overlaid (sym (append-nil came))
  come_from came m p (q ∷ places) h e =
      go (have_one_key bytes p q) refl (λ n. come_from (came ++ record_in bytes q ∷ []) n q places
      (λ i j d less within. h (suc i) (suc j) d (omega (arith, less)) (omega (arith, within))))
    where
      go : (b : Bool) → have_one_key bytes p q ≡ b → ((n : List Record) →
          n ++ record_in bytes q ∷ [] ≡ overlaid (came ++ record_in bytes q ∷ []) →
          n ++ records_in bytes (last_from bytes q places) ≡
          overlaid ((came ++ record_in bytes q ∷ []) ++ records_in bytes places)) →
          m ++ records_in bytes (cond b (last_from bytes q places) (p ∷ last_from bytes q places)) ≡
          overlaid (came ++ record_in bytes q ∷ records_in bytes places)
      go true k next =
          next m (kept_in_its_place came m (record_in bytes p) (record_in bytes q) e
          (same_key bytes p q k)) ∙
          ap overlaid (append_assoc came (record_in bytes q ∷ []) (records_in bytes places))
      go false k next =
          sym (append_assoc m (record_in bytes p ∷ [])
          (records_in bytes (last_from bytes q places))) ∙
          next (m ++ record_in bytes p ∷ []) (kept_with_next came m (record_in bytes p)
          (record_in bytes q) e (below_key bytes p q (h 0 1 p (omega arith) (omega arith)) k)) ∙
          ap overlaid (append_assoc came (record_in bytes q ∷ []) (records_in bytes places))

  -- The last place of each key has the records that all come to.
  pub last_come : (places : List Place) → AreInOrder bytes places →
      records_in bytes (last_of_each bytes places) ≡ overlaid (records_in bytes places)
  last_come [] h = sym (come_to [])
  last_come (p ∷ places) h = come_from (record_in bytes p ∷ []) [] p places h
      (sym (come_to (record_in bytes p ∷ [])))

  all_from : (P : Place → Type 0) (p : Place) (places : List Place) → AllByRecursion P (p ∷ places) →
      AllByRecursion P (last_from bytes p places)
  all_from P p [] h = h
  all_from P p (q ∷ places) h = go (have_one_key bytes p q) (all_from P q places h.1)
    where
      go : (b : Bool) → AllByRecursion P (last_from bytes q places) →
          AllByRecursion P (cond b (last_from bytes q places) (p ∷ last_from bytes q places))
      go true k = k
      go false k = (h.0, k)

  -- What is so of all places is so of the last one of each key.
  pub last_all : (P : Place → Type 0) (places : List Place) → All P places →
      All P (last_of_each bytes places)
  last_all P [] h = h
  last_all P (p ∷ places) h = All-from_recursion P (last_from bytes p places)
      (all_from P p places (recursion_from_All P (p ∷ places) h))

-- ---- places whose keys rise

module _ (bytes : List ℕ) (places : List Place) (n : ℕ) (last place : Place) (from : 1 ≤ n)
    (within : n < length places) (there : (d : Place) → get_or places n d ≡ place)
    (was : (d : Place) → get_or places (n - 1) d ≡ last) where
  in_order : AreInOrder bytes places → Precedes bytes last place
  in_order all = subst (λ p. Precedes bytes p place) (was place)
      (subst (Precedes bytes (get_or places (n - 1) place)) (there place)
      (all (n - 1) n place (omega arith) within))

  one_more : (k : ℕ) (p : Place) → k < length places → get_or places k p ≡ p →
      records_in bytes (take (k + 1) places) ≡
      records_in bytes (take k places) ++ record_in bytes p ∷ []
  one_more k p l e = ap (records_in bytes) (take_more places k p l ∙
      ap (λ q. take k places ++ q ∷ []) e) ∙ map_push (record_in bytes) (take k places) p

  -- Keys that rise up to a place rise up to the next one, where the two do not have one key.
  pub rising_more : AreInOrder bytes places → have_one_key bytes last place ≡ false →
      Rising (keys_of (records_in bytes (take n places))) →
      Rising (keys_of (records_in bytes (take (n + 1) places)))
  rising_more all differ rising =
      let e : n - 1 + 1 ≡ n = omega arith in
      let up_to : records_in bytes (take n places) ≡
      records_in bytes (take (n - 1) places) ++ record_in bytes last ∷ [] =
      ap (λ k. records_in bytes (take k places)) (sym e) ∙
      one_more (n - 1) last (omega arith) (was last) in
      subst (λ rs. Rising (keys_of rs))
      (sym (one_more n place within (there place) ∙
      ap (λ rs. rs ++ record_in bytes place ∷ []) up_to))
      (rises_behind (records_in bytes (take (n - 1) places)) (record_in bytes last)
      (record_in bytes place) (subst (λ rs. Rising (keys_of rs)) up_to rising)
      (below_key bytes last place (in_order all) differ))

  -- Else they are neighbours with one key.
  pub neighbours : have_one_key bytes last place ≡ true → AreNeighbours bytes places last place
  neighbours same = record {
    at = n - 1;
    within = omega arith;
    one_is = was;
    next_is = λ d. subst (λ k. get_or places k d ≡ place) (omega arith) (there d);
    same = same_key bytes last place same;
  }

-- ---- a record more behind places

-- A place ends the places, behind these.
pub record EndsIn (places : List Place) (p : Place) : Type 0 where
  pub front : List Place
  pub is : places ≡ front ++ p ∷ []

ends : (places : List Place) (k : ℕ) (p : Place) → suc k ≡ length places →
    slice_get places k ≡ Some p → EndsIn places p
ends [] k p l e = absurd (omega (arith, l))
ends (x ∷ []) zero p l e = record { front = []; is = ap (λ q. q ∷ []) (one_same e) }
  where
    one_same : Some x ≡ Some p → x ≡ p
    one_same f = cc
ends (x ∷ []) (suc k) p l e = absurd (omega (arith, l))
ends (x ∷ y ∷ places) zero p l e = absurd (omega (arith, l))
ends (x ∷ y ∷ places) (suc k) p l e =
    let more = ends (y ∷ places) k p (omega (arith, l)) e in
    record { front = x ∷ more.front; is = ap (λ ps. x ∷ ps) more.is }

pub last_ends : (places : List Place) (p : Place) → slice_get places (length places - 1) ≡ Some p →
    EndsIn places p
last_ends [] p e = absurd (none_some e)
  where
    none_some : None ≡ Some p → ⊥
    none_some f = cc
last_ends (x ∷ places) p e = ends (x ∷ places) (length (x ∷ places) - 1) p (omega arith) e

-- A record rises behind those of the places where they rise and its key is greater than the last
-- one's, and only there.
module _ (bytes : List ℕ) (places : List Place) (last : Place) (r : Record)
    (e : slice_get places (length places - 1) ≡ Some last) where
  abbrev front : List Place
  front = (last_ends places last e).front

  all : records_in bytes places ≡ records_in bytes front ++ record_in bytes last ∷ []
  all = ap (records_in bytes) (last_ends places last e).is ∙
      map_push (record_in bytes) front last

  pub rises_with : Rising (keys_of (records_in bytes places)) →
      is_lt (key_order (key_in bytes last) r.key) ≡ true →
      Rising (keys_of (records_in bytes places ++ r ∷ []))
  rises_with rising below = subst (λ rs. Rising (keys_of (rs ++ r ∷ []))) (sym all)
      (rises_behind (records_in bytes front) (record_in bytes last) r
      (subst (λ rs. Rising (keys_of rs)) all rising) below)

  pub less_with : Rising (keys_of (records_in bytes places ++ r ∷ [])) →
      is_lt (key_order (key_in bytes last) r.key) ≡ true
  less_with rising = last_less (records_in bytes front) (record_in bytes last) r
      (subst (λ rs. Rising (keys_of (rs ++ r ∷ []))) all rising)

-- Where no place is the last one, one record more rises.
pub alone : (bytes : List ℕ) (places : List Place) (r : Record) →
    slice_get places (length places - 1) ≡ None →
    Rising (keys_of (records_in bytes places ++ r ∷ []))
alone bytes [] r e = tt
alone bytes (p ∷ places) r e = absurd (some_there (p ∷ places) (length (p ∷ places) - 1) (omega arith) e)
  where
    some_there : (ps : List Place) (k : ℕ) → k < length ps → slice_get ps k ≡ None → ⊥
    some_there [] k l f = omega (arith, l)
    some_there (q ∷ ps) zero l f = cc
    some_there (q ∷ ps) (suc k) l f = some_there ps k (omega (arith, l)) f
