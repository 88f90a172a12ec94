-- What is found among the pairs of a map: at a key, from a key on, at a number.
use mathlib.Core.List.{cons≢nil}
use Rattle.std.proofs.Common.{rules, ◌≡◌, ℕ, zero, suc, ◌<◌, false, cond, List, [], ◌∷◌, ◌++◌}
use Rattle.std.proofs.Common.{length, map, Ordering, refl, sym, ap, ◌∙◌, subst, arith, ◌≤◌, Bool}
use Rattle.std.proofs.Common.{true, not, take, inl, inr, ◌⊎◌, append_assoc, append-nil, drop, ◌-◌}
use Rattle.std.proofs.Math.Seq.{drop-append_seam}
use Rattle.std.proofs.lemmas.List.{length-append}
use Rattle.std.proofs.lemmas.List.Concat.{flat_map-append}
use Rattle.std.specs.List.{AllByRecursion}
use Rattle.std.specs.Ordering.{is_lt, nat_cmp, ordering_reverse, ordering_then}
use Rattle.std.specs.declared.cmp.Ordering.TheVariants.{Less, Equal, Greater}
use Rattle.std.proofs.lemmas.Bool.{cases_Bool, cond_both}
use Rattle.std.proofs.lemmas.Cmp.{nat_cmp_total}
use Rattle.std.proofs.lemmas.Grind.{common_steps}
use Rattle.prolly_entry.specs.Keys.{key_order, KeyBelow, RisingFrom}
use Rattle.prolly_entry.specs.Pair.{IsPair, Pair}
use Rattle.prolly_entry.specs.Spelling.{pair_spelling}
use Rattle.prolly_entry.specs.declared.version.Version.{Version}
use Rattle.prolly_entry.specs.lemmas.Lists.{all_append, all_back}
use Rattle.prolly_entry.specs.lemmas.Orders.{order_trans}
use Rattle.prolly_tree.specs.LookUp.{find}
use Rattle.prolly_tree.specs.RecordFile.{record_file}
use Rattle.prolly_tree.specs.Tree.{last_key}
use Rattle.prolly_tree.specs.lemmas.Maps.{Above, Rises, rises_front, rises_back}
use Rattle.prolly_tree.specs.lemmas.Maps.{above_last, find_above}
use Rattle.prolly_tree.specs.Difference.{IsMap}
use Rattle.prolly_look_up.specs.Entries.{IsLeaf, IsWhole}
use Rattle.prolly_look_up.specs.HeldPairs.{pairs_held}
use Rattle.prolly_look_up.specs.PairsFrom.{IsLeft, pairs_from}
use Rattle.prolly_look_up.specs.ScanWay.{next_key, AreFirstFrom}
use Rattle.prolly_look_up.specs.lemmas.HeldPairs.{held_lawful}
pub use Rattle.prolly_look_up.specs.lemmas.PairLists.{above_not, find_first, find_over, from_all}
pub use Rattle.prolly_look_up.specs.lemmas.PairLists.{from_first, none_from, nth_back, nth_front}
pub use Rattle.prolly_look_up.specs.lemmas.PairLists.{pairs_from-append}
use Rattle.prolly_look_up.specs.lemmas.RisingKeys.{is_less}

-- ---- keys

pub all_below : (ps : List Pair) (key : List ℕ) → Rises ps → KeyBelow (last_key ps) key →
    AllByRecursion (λ p. KeyBelow p.key key) ps
all_below [] key h k = tt
all_below (p ∷ []) key h k = (k, tt)
all_below (p ∷ q ∷ ps) key h k = search (rules, order_trans, all_below (q ∷ ps) key h.1 k)

from_rises : (p : Pair) (ps : List Pair) → Above p.key ps → Rises ps →
    RisingFrom p.key (map (λ q. q.key) ps)
from_rises p [] h k = tt
from_rises p (q ∷ ps) h k = (h.0, from_rises q ps k.0 k.1)

-- Pairs that rise are a map.
pub rising_is : (ps : List Pair) → Rises ps → IsMap ps
rising_is [] h = tt
rising_is (p ∷ ps) h = from_rises p ps h.0 h.1

-- ---- scanning pairs from a key on, in a leaf and over chunks

-- Pairs of which the last is not below it have one.
pub some_from : (from : List ℕ) (ps : List Pair) → 0 < length ps →
    is_lt (key_order (last_key ps) from) ≡ false → pairs_from from ps ≡ [] → ⊥
some_from from [] some h e = absurd (omega arith)
some_from from (p ∷ []) some h e = grind arith
some_from from (p ∷ q ∷ ps) some h e =
    let rest = pairs_from from (q ∷ ps) in
    cond_both (not (is_lt (key_order p.key from))) (p ∷ rest) rest (λ found. found ≡ [] → ⊥)
    (λ here f. cons≢nil f) (λ past f. some_from from (q ∷ ps) (omega arith) h f) e

-- Where a pair is less than the key, those before it do not count.
pub from_behind : (key : List ℕ) (before : List Pair) (p : Pair) (rest : List Pair) →
    Rises (before ++ p ∷ rest) → KeyBelow p.key key →
    pairs_from key (before ++ p ∷ rest) ≡ pairs_from key (p ∷ rest)
from_behind key [] p rest r less = refl
from_behind key (q ∷ before) p rest r less =
    let below = order_trans q.key p.key key
    (all_back (λ x. KeyBelow q.key x.key) before (p ∷ rest) r.0).0 less in
    search (rules, from_behind key before p rest r.1 less)

-- The bytes of the last pairs are those of a leaf.
pub left_leaf : (version : Version) (chunk : List ℕ) → IsWhole version chunk → (left : ℕ)
    (l : IsLeft (pairs_held chunk) left) (entries : List ℕ) →
    entries ≡ record_file (pairs_held chunk) → IsLeaf (drop (length entries - left) entries) l.rest
left_leaf version chunk whole left l entries are =
    let front = record_file l.before in
    let back = record_file l.rest in
    let all : entries ≡ front ++ back = are ∙ ap record_file l.are ∙
    flat_map-append pair_spelling l.before l.rest in
    let start : length entries - left ≡ length front =
    omega (arith, l.is, ap length all, length-append front back) in record {
      is = ap (λ n. drop n entries) start ∙ ap (drop (length front)) all ∙
          drop-append_seam front back;
      lawful = all_back IsPair l.before l.rest
          (subst (AllByRecursion IsPair) l.are (held_lawful version chunk whole));
    }

-- ---- in a map

-- What holds of all pairs holds of those from a key on.
pub all_from : (P : Pair → Type 0) (key : List ℕ) (ps : List Pair) → AllByRecursion P ps →
    AllByRecursion P (pairs_from key ps)
all_from P key [] h = tt
all_from P key (p ∷ ps) h = grind (arith, all_from P key ps h.1)

-- They rise, too.
pub rises_from : (key : List ℕ) (ps : List Pair) → Rises ps → Rises (pairs_from key ps)
rises_from key [] h = tt
rises_from key (p ∷ ps) h = grind (arith, all_from, rises_from key ps h.1)

-- ---- copies of the first pairs

-- Of all pairs these were copied, and the rest is left.
pub record IsCopiedTo (limit : ℕ) (all pairs rest : List Pair) : Type 0 where
  pub within : length pairs ≤ limit
  pub same : take limit all ≡ take limit (pairs ++ rest)

-- A part of the rest was copied.
pub copied_on : (limit : ℕ) (all pairs rest : List Pair) → IsCopiedTo limit all pairs rest →
    (part more : List Pair) → rest ≡ part ++ more → (new : List Pair) →
    new ≡ take limit (pairs ++ part) → IsCopiedTo limit all new more
copied_on limit all pairs rest s part more e new is = grind (arith, common_steps)

-- ---- the least key above another

-- It is above that one.
pub below_next : (key : List ℕ) → KeyBelow key (next_key key)
below_next [] = refl
below_next (b ∷ key) = search (rules, below_next key)

-- And not above any other key above it.
pub least_above : (key other : List ℕ) → KeyBelow key other →
    is_lt (key_order other (next_key key)) ≡ false
least_above [] [] h = cc
least_above [] (zero ∷ []) h = refl
least_above [] (zero ∷ c ∷ other) h = refl
least_above [] (suc b ∷ other) h = search rules
least_above (a ∷ key) [] h = cc
least_above (a ∷ key) (b ∷ other) h = go (least_above key other) (nat_cmp a b) refl h
  where
    back : (o : Ordering) → nat_cmp a b ≡ o →
        key_order (b ∷ other) (next_key (a ∷ key)) ≡
        ordering_then (ordering_reverse o) (key_order other (next_key key))
    back o e = ap (λ o. ordering_then o (key_order other (next_key key)))
        (nat_cmp_total.antisymm b a ∙ ap ordering_reverse e)

    go : (KeyBelow key other → is_lt (key_order other (next_key key)) ≡ false) → (o : Ordering) →
        nat_cmp a b ≡ o → ordering_then o (key_order key other) ≡ Less →
        is_lt (key_order (b ∷ other) (next_key (a ∷ key))) ≡ false
    go more Less e below = ap is_lt (back Less e)
    go more Equal e below = ap is_lt (back Equal e) ∙ more below
    go more Greater e below = cc

-- ---- pairs of a map that were found

-- The first key is not below this one, and those behind it are above it.
abbrev NotBelow : List ℕ → List Pair → Type 0
NotBelow key [] = Unit {0}
NotBelow key (p ∷ ps) = (is_lt (key_order p.key key) ≡ false) × Above key ps

-- Before them stand those below the key, and others behind them, but none where they are none.
pub record IsFoundIn (key : List ℕ) (all found : List Pair) : Type 0 where
  pub before : List Pair
  pub after : List Pair
  pub are : all ≡ before ++ (found ++ after)
  pub below : AllByRecursion (λ p. KeyBelow p.key key) before
  pub here : NotBelow key found
  pub none : found ≡ [] → after ≡ []

from_here : (key : List ℕ) (ps : List Pair) → NotBelow key ps → pairs_from key ps ≡ ps
from_here key [] h = refl
from_here key (p ∷ ps) h = search (rules, from_all)

from_next : (key : List ℕ) (ps : List Pair) → Above key ps → pairs_from (next_key key) ps ≡ ps
from_next key [] h = refl
from_next key (p ∷ ps) h = grind (arith, least_above, from_next key ps h.1)

-- Of pairs whose keys rise, those from the key on stand behind the others.
in_leaf : (key : List ℕ) (ps : List Pair) → Rises ps → IsFoundIn key ps (pairs_from key ps)
in_leaf key [] r = grind arith
in_leaf key (p ∷ ps) r = go (in_leaf key ps r.1) (is_lt (key_order p.key key)) refl
  where
    go : IsFoundIn key ps (pairs_from key ps) → (b : Bool) → is_lt (key_order p.key key) ≡ b →
        IsFoundIn key (p ∷ ps) (cond (not b) (p ∷ pairs_from key ps) (pairs_from key ps))
    go rest true e =
        record {
          before = p ∷ rest.before;
          after = rest.after;
          are = ap (λ qs. p ∷ qs) rest.are;
          below = (is_less (key_order p.key key) e, rest.below);
          here = rest.here;
          none = rest.none;
        }
    go rest false e =
        let above = above_not p.key key ps e r.0 in
        let all = from_all key ps above in
        record {
          before = [];
          after = [];
          are = ap (λ qs. p ∷ qs) (sym all ∙ sym (append-nil (pairs_from key ps)));
          below = tt;
          here = (e, subst (Above key) (sym all) above);
          none = λ f. refl;
        }

last_key_append : (xs : List Pair) (p : Pair) (ps : List Pair) →
    last_key (xs ++ p ∷ ps) ≡ last_key (p ∷ ps)
last_key_append [] p ps = refl
last_key_append (x ∷ []) p ps = refl
last_key_append (x ∷ y ∷ xs) p ps = last_key_append (y ∷ xs) p ps

above_back : (key : List ℕ) (ps after : List Pair) → Above key (ps ++ after) → Above key after
above_back key ps after h = all_back (λ q. KeyBelow key q.key) ps after h

-- So they are the first ones from the key on.
first_from : (key : List ℕ) (m found : List Pair) → Rises m → IsFoundIn key m found →
    AreFirstFrom key m found
first_from key m [] r f = search (rules, none_from)
first_from key m (p ∷ ps) r f =
    let found = p ∷ ps in
    let last = last_key found in
    let whole : Rises (f.before ++ (found ++ f.after)) = subst Rises f.are r in
    let back = rises_back f.before (found ++ f.after) whole in
    let front : Rises (f.before ++ found) = rises_front (f.before ++ found) f.after
    (subst Rises (sym (append_assoc f.before found f.after)) whole) in
    let after : Above key f.after = above_not p.key key f.after f.here.0
    (above_back p.key ps f.after back.0) in
    let past : AllByRecursion (λ q. KeyBelow q.key (next_key last)) (f.before ++ found) =
    all_below (f.before ++ found) (next_key last) front
    (subst (λ k. KeyBelow k (next_key last)) (sym (last_key_append f.before p ps))
    (below_next last)) in
    ap (pairs_from key) f.are ∙ pairs_from-append key f.before (found ++ f.after) ∙
    ap (λ qs. qs ++ pairs_from key (found ++ f.after)) (none_from key f.before f.below) ∙
    pairs_from-append key found f.after ∙
    ap (λ qs. qs ++ pairs_from key f.after) (from_here key found f.here) ∙
    ap (λ qs. found ++ qs) (from_all key f.after after ∙
    sym (ap (pairs_from (next_key last)) (f.are ∙ sym (append_assoc f.before found f.after)) ∙
    pairs_from-append (next_key last) (f.before ++ found) f.after ∙
    ap (λ qs. qs ++ pairs_from (next_key last) f.after)
    (none_from (next_key last) (f.before ++ found) past) ∙
    from_next last f.after (above_last found f.after (omega arith) back)))

-- ---- a part of a map

-- Pairs behind one that is not below the key are above it.
pub above_some : (key : List ℕ) (ps after : List Pair) → Rises (ps ++ after) →
    (pairs_from key ps ≡ [] → ⊥) → Above key after
above_some key [] after r some = absurd (some refl)
above_some key (p ∷ ps) after r some =
    let rest = pairs_from key ps in
    elim (cases_Bool (is_lt (key_order p.key key))) [
      | inl past ↦ above_some key ps after r.1
          (λ none. some (ap (λ b. cond (not b) (p ∷ rest) rest) past ∙ none))
      | inr here ↦ above_not p.key key after here (above_back p.key ps after r.0)
    ]

module _ (key : List ℕ) (m before pairs after : List Pair) (r : Rises m)
    (are : m ≡ before ++ (pairs ++ after))
    (past : AllByRecursion (λ p. KeyBelow p.key key) before)
    (here : (after ≡ []) ⊎ (pairs_from key pairs ≡ [] → ⊥)) where
  behind : Rises (pairs ++ after)
  behind = rises_back before (pairs ++ after) (subst Rises are r)

  pub find_in_part : find pairs key ≡ find m key
  find_in_part = grind (arith, find_over, find_first, find_above, above_some, behind)

  pub first_in_part : AreFirstFrom key m (pairs_from key pairs)
  first_in_part =
      let own = in_leaf key pairs (rises_front pairs after behind) in
      first_from key m (pairs_from key pairs) r (record {
        before = before ++ own.before;
        after = own.after ++ after;
        are = are ∙ ap (λ ps. before ++ (ps ++ after)) own.are ∙
            regroup before own.before (pairs_from key pairs) own.after after;
        below = all_append (λ p. KeyBelow p.key key) before own.before past own.below;
        here = own.here;
        none = λ e. ap (λ ps. ps ++ after) (own.none e) ∙ last e here;
      })
    where
      regroup : (xs before found after ys : List Pair) →
          xs ++ ((before ++ (found ++ after)) ++ ys) ≡
          (xs ++ before) ++ (found ++ (after ++ ys))
      regroup xs before found after ys = simp append_assoc

      last : pairs_from key pairs ≡ [] → (after ≡ []) ⊎ (pairs_from key pairs ≡ [] → ⊥) →
          after ≡ []
      last e (inl none) = none
      last e (inr some) = absurd (some e)
