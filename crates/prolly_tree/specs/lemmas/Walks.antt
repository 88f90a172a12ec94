-- A walk over two maps: what was passed over, and the change behind it.
use Rattle.std.proofs.Common.{◌≡◌, ◌≢◌, ℕ, Bool, true, false, cond, List, [], ◌∷◌, ◌++◌, Option}
use Rattle.std.proofs.Common.{Some, None, refl, sym, ap, ◌∙◌, subst, append_assoc, not, nat_eq}
use Rattle.std.proofs.Common.{arith, length}
use Rattle.std.specs.Cmp.Lexicographic.{pointwise}
use Rattle.std.proofs.lemmas.List.{length-append}
use Rattle.std.specs.Ordering.{is_eq}
use Rattle.std.proofs.lemmas.Bool.Decides.{Decides-eqb}
use Rattle.std.proofs.lemmas.Slice.Eq.{slice_eq-Decides}
use Rattle.prolly_entry.specs.Keys.{key_order, KeyBelow}
use Rattle.prolly_entry.specs.Pair.{Pair}
use Rattle.prolly_entry.specs.lemmas.Orders.{order_self, order_trans}
use Rattle.prolly_entry.specs.lemmas.Spellings.{same_pair}
use Rattle.prolly_tree.specs.Difference.{IsMap}
use Rattle.prolly_tree.specs.LookUp.{find}
use Rattle.prolly_tree.specs.lemmas.Differences.{differ_nowhere, shared_first, removed_first}
use Rattle.prolly_tree.specs.lemmas.Differences.{added_first, changed_first}
use Rattle.prolly_tree.specs.lemmas.Maps.{Above, find_above, map_behind, rises}
use Rattle.prolly_tree.specs.Walks.{Maps, AreMaps, AreAlike, IsWalkEnd, IsFirstChange, TakesLeast}

-- Maps begin like themselves.
pub alike_none : (maps : Maps) → AreAlike maps maps
alike_none maps = record { shared = []; before_is = refl; after_is = refl }

pub alike_more : (maps mid rest : Maps) → AreAlike maps mid → AreAlike mid rest →
    AreAlike maps rest
alike_more maps mid rest s t = record {
  shared = s.shared ++ t.shared;
  before_is = s.before_is ∙ ap (λ xs. s.shared ++ xs) t.before_is ∙
      sym (append_assoc s.shared t.shared rest.before);
  after_is = s.after_is ∙ ap (λ xs. s.shared ++ xs) t.after_is ∙
      sym (append_assoc s.shared t.shared rest.after);
}

-- What is left of maps are maps.
pub maps_behind : (maps rest : Maps) → AreAlike maps rest → AreMaps maps → AreMaps rest
maps_behind maps rest s m = (
  map_behind s.shared rest.before (subst IsMap s.before_is m.0),
  map_behind s.shared rest.after (subst IsMap s.after_is m.1),
)

-- One pair more that both have.
pub alike_one : (maps rest : Maps) (o n : Pair) → TakesLeast maps (Some o) (Some n) rest →
    o.value ≡ n.value → AreAlike maps rest
alike_one maps rest o n h e = record {
  shared = n ∷ [];
  before_is = h.0 ∙ ap (λ p. p ∷ rest.before) (same_pair o.key n.key o.value n.value h.2 e);
  after_is = h.1;
}

-- ---- looking behind what was passed over

find_behind : (xs ys : List Pair) (key : List ℕ) → find xs key ≡ None →
    find (xs ++ ys) key ≡ find ys key
find_behind [] ys key h = refl
find_behind (x ∷ xs) ys key h =
    go (is_eq (key_order x.key key)) h (λ e. find_behind xs ys key e)
  where
    go : (b : Bool) → cond b (Some x.value) (find xs key) ≡ None →
        (find xs key ≡ None → find (xs ++ ys) key ≡ find ys key) →
        cond b (Some x.value) (find (xs ++ ys) key) ≡ find ys key
    go true e more = cc
    go false e more = more e

above_at : (key : List ℕ) (xs ys : List Pair) (p : Pair) → Above key (xs ++ p ∷ ys) →
    KeyBelow key p.key
above_at key [] ys p h = h.0
above_at key (x ∷ xs) ys p h = above_at key xs ys p h.1

-- The key of a pair of a map is not found before it.
not_before : (xs ys : List Pair) (p : Pair) → IsMap (xs ++ p ∷ ys) → find xs p.key ≡ None
not_before [] ys p m = refl
not_before (x ∷ xs) ys p m = rw (ap is_eq (above_at x.key xs ys p (rises (x ∷ xs ++ p ∷ ys) m).0))
    (not_before xs ys p (map_behind (x ∷ []) (xs ++ p ∷ ys) m))

-- Nor is a greater one.
greater_behind : (xs ys : List Pair) (p : Pair) → IsMap (xs ++ p ∷ ys) → (other : List ℕ) →
    KeyBelow p.key other → find xs other ≡ None
greater_behind [] ys p m other h = refl
greater_behind (x ∷ xs) ys p m other h =
    rw (ap is_eq (order_trans x.key p.key other
    (above_at x.key xs ys p (rises (x ∷ xs ++ p ∷ ys) m).0) h))
    (greater_behind xs ys p (map_behind (x ∷ []) (xs ++ p ∷ ys) m) other h)

-- A key is not found at a pair whose key is below it.
find_next : (p : Pair) (ps : List Pair) (other : List ℕ) → KeyBelow p.key other →
    find (p ∷ ps) other ≡ find ps other
find_next p ps other h = ap (λ b. cond b (Some p.value) (find ps other)) (ap is_eq h)

-- A change behind what both maps begin with is the first of both.
change_behind : (maps mid rest : Maps) (key : List ℕ) (before after : Option (List ℕ)) →
    AreMaps maps → (s : AreAlike maps mid) → find s.shared key ≡ None →
    ((other : List ℕ) → KeyBelow key other → find s.shared other ≡ None) →
    IsFirstChange mid key before after rest → IsFirstChange maps key before after rest
change_behind maps mid rest key before after m s none greater c = record {
  begins = λ d is. rw (s.before_is, s.after_is) (shared_first s.shared mid.before mid.after
      (record { key = key; value = after } ∷ d) (subst IsMap s.before_is m.0)
      (subst IsMap s.after_is m.1) (c.begins d is));
  before_is = ap (λ xs. find xs key) s.before_is ∙ find_behind s.shared mid.before key none ∙
      c.before_is;
  after_is = ap (λ xs. find xs key) s.after_is ∙ find_behind s.shared mid.after key none ∙
      c.after_is;
  greater = λ other h. ap (λ xs. find xs other) s.before_is ∙
      find_behind s.shared mid.before other (greater other h) ∙ c.greater other h;
  left = c.left;
  less = omega (
    arith,
    c.less,
    ap length s.before_is,
    ap length s.after_is,
    length-append s.shared mid.before,
    length-append s.shared mid.after,
  );
}

-- ---- the three kinds of changes

found_first : (p : Pair) (ps : List Pair) → find (p ∷ ps) p.key ≡ Some p.value
found_first p ps = ap (λ b. cond b (Some p.value) (find ps p.key)) (ap is_eq (order_self p.key))

pub removed : (maps mid rest : Maps) (o : Pair) → AreMaps maps → AreAlike maps mid →
    TakesLeast mid (Some o) None rest →
    IsFirstChange maps o.key (Some o.value) None rest
removed maps mid rest o m s h = change_behind maps mid rest o.key (Some o.value) None m s
    (not_before s.shared rest.before o all) (greater_behind s.shared rest.before o all) (record {
      begins = λ d is. rw (h.0, h.1) (removed_first o rest.before rest.after d os h.2 is);
      before_is = rw h.0 (found_first o rest.before);
      after_is = rw h.1 (find_above rest.after o.key h.2);
      greater = λ other below. rw h.0 (find_next o rest.before other below);
      left = (map_behind (o ∷ []) rest.before os, subst IsMap h.1 mids.1);
      less = omega (arith, ap length h.0, ap length h.1);
    })
  where
    mids : AreMaps mid
    mids = maps_behind maps mid s m

    os : IsMap (o ∷ rest.before)
    os = subst IsMap h.0 mids.0

    all : IsMap (s.shared ++ o ∷ rest.before)
    all = subst IsMap (s.before_is ∙ ap (λ xs. s.shared ++ xs) h.0) m.0

pub added : (maps mid rest : Maps) (n : Pair) → AreMaps maps → AreAlike maps mid →
    TakesLeast mid None (Some n) rest →
    IsFirstChange maps n.key None (Some n.value) rest
added maps mid rest n m s h = change_behind maps mid rest n.key None (Some n.value) m s
    (not_before s.shared rest.after n all) (greater_behind s.shared rest.after n all) (record {
      begins = λ d is. rw (h.0, h.1) (added_first n rest.before rest.after d h.2 ns is);
      before_is = rw h.0 (find_above rest.before n.key h.2);
      after_is = rw h.1 (found_first n rest.after);
      greater = λ other below. ap (λ xs. find xs other) h.0;
      left = (subst IsMap h.0 mids.0, map_behind (n ∷ []) rest.after ns);
      less = omega (arith, ap length h.0, ap length h.1);
    })
  where
    mids : AreMaps mid
    mids = maps_behind maps mid s m

    ns : IsMap (n ∷ rest.after)
    ns = subst IsMap h.1 mids.1

    all : IsMap (s.shared ++ n ∷ rest.after)
    all = subst IsMap (s.after_is ∙ ap (λ xs. s.shared ++ xs) h.1) m.1

pub changed : (maps mid rest : Maps) (o n : Pair) → AreMaps maps → AreAlike maps mid →
    TakesLeast mid (Some o) (Some n) rest → o.value ≢ n.value →
    IsFirstChange maps o.key (Some o.value) (Some n.value) rest
changed maps mid rest o n m s h differ = rw h.2 (change_behind maps mid rest n.key (Some o.value)
    (Some n.value) m s
    (not_before s.shared rest.after n all) (greater_behind s.shared rest.after n all) (record {
      begins = λ d is. rw (h.0, h.1) (changed_first o n rest.before rest.after d os ns h.2 differ
          is);
      before_is = rw (h.0, sym h.2) (found_first o rest.before);
      after_is = rw h.1 (found_first n rest.after);
      greater = λ other below. rw h.0 (find_next o rest.before other
          (subst (λ key. KeyBelow key other) (sym h.2) below));
      left = (map_behind (o ∷ []) rest.before os, map_behind (n ∷ []) rest.after ns);
      less = omega (arith, ap length h.0, ap length h.1);
    }))
  where
    mids : AreMaps mid
    mids = maps_behind maps mid s m

    os : IsMap (o ∷ rest.before)
    os = subst IsMap h.0 mids.0

    ns : IsMap (n ∷ rest.after)
    ns = subst IsMap h.1 mids.1

    all : IsMap (s.shared ++ n ∷ rest.after)
    all = subst IsMap (s.after_is ∙ ap (λ xs. s.shared ++ xs) h.1) m.1

-- Where nothing is left behind what both begin with, the maps are the same.
pub no_change : (maps mid rest : Maps) → AreMaps maps → AreAlike maps mid →
    TakesLeast mid None None rest → IsWalkEnd maps rest
no_change maps mid rest m s h = record {
  same = rw (s.before_is, s.after_is) (shared_first s.shared mid.before
      mid.after [] (subst IsMap s.before_is m.0) (subst IsMap s.after_is m.1)
      (rw (h.0, h.1) differ_nowhere));
  before_is = h.2;
  after_is = h.3;
}

-- ---- what a comparison of values says

pub differ : (xs ys : List ℕ) (unequal : Bool) → unequal ≡ not (pointwise nat_eq xs ys) →
    unequal ≡ true → xs ≢ ys
differ xs ys unequal is h e = go (pointwise nat_eq xs ys)
    ((slice_eq-Decides Decides-eqb xs ys (pointwise nat_eq xs ys) refl).1 e) (sym is ∙ h)
  where
    go : (b : Bool) → b ≡ true → not b ≡ true → ⊥
    go true f g = cc
    go false f g = cc

pub same : (xs ys : List ℕ) (unequal : Bool) → unequal ≡ not (pointwise nat_eq xs ys) →
    unequal ≡ false → xs ≡ ys
same xs ys unequal is h = (slice_eq-Decides Decides-eqb xs ys (pointwise nat_eq xs ys) refl).0
    (go (pointwise nat_eq xs ys) (sym is ∙ h))
  where
    go : (b : Bool) → not b ≡ false → b ≡ true
    go true f = refl
    go false f = cc

-- Maps with nothing left are maps.
pub nothing_left : (mid rest : Maps) → TakesLeast mid None None rest → AreMaps rest
nothing_left mid rest h = (subst IsMap (sym h.2) tt, subst IsMap (sym h.3) tt)
