-- Each list has one split, and with least 2 it has few groups.
use Rattle.std.proofs.Common.{◌≡◌, ℕ, suc, ◌+◌, ◌*◌, ◌<◌, ◌≤◌, Bool, true, false, ◌&&◌, nat_le}
use Rattle.std.proofs.Common.{List, [], ◌∷◌, ◌++◌, length, refl, sym, ap, ◌∙◌, subst, arith}
use Rattle.std.proofs.Common.{add-one, append-nil}
use Rattle.std.proofs.lemmas.Bool.{leb-true, le-leb, false≢true}
use Rattle.std.proofs.lemmas.List.{length-append}
use Rattle.std.proofs.lemmas.List.Concat.{flat_map-append}
use Rattle.std.specs.List.{AllByRecursion}
use Rattle.prolly_tree.specs.Split.{last_passes, is_closed, IsSplit, AllButLast, NoneEarlier, split}
use Rattle.prolly_tree.specs.Split.{OneSplit}
use Rattle.prolly_tree.specs.lemmas.Splits.{flat, as_group, closes, Open, Ends, AllEnd}
use Rattle.prolly_tree.proofs.splits.Parts.{parts, split_parts, open_rest_of, ends_closed}
use Rattle.prolly_entry.specs.lemmas.Lists.{head_is, tail_is}

-- no boundary before the last place of a list that goes on `before` entries
abbrev NoneEarlierAt : {A : Type 0} → (A → Bool) → ℕ → ℕ → List A → Type 0
NoneEarlierAt {A} test least before list = (front : List A) (x y : A) (rest : List A) →
    list ≡ front ++ x ∷ y ∷ rest → least ≤ suc (before + length front) → test x ≡ false

-- the parts of a split
record PartsOf {A : Type 0} (test : A → Bool) (least : ℕ) (groups : List (List A)) : Type 0 where
  gs : List (List A)
  rest : List A
  same : groups ≡ gs ++ as_group rest
  ends : AllEnd test least 0 gs
  opens : Open test least 0 rest

flat_as_group : {A : Type 0} (rest : List A) → flat (as_group rest) ≡ rest
flat_as_group [] = refl
flat_as_group (x ∷ xs) = append-nil (x ∷ xs)

pub flat_parts : {A : Type 0} (gs : List (List A)) (rest : List A) →
    flat (gs ++ as_group rest) ≡ flat gs ++ rest
flat_parts gs rest = flat_map-append (λ group. group) gs (as_group rest) ∙
    ap (λ more. flat gs ++ more) (flat_as_group rest)

module _ {A : Type 0} (test : A → Bool) (least : ℕ) where
  and_false : (b : Bool) → (b && false) ≡ false
  and_false true = refl
  and_false false = refl

  not_closes : (before : ℕ) (x : A) → (least ≤ suc before → test x ≡ false) →
      closes test least before x ≡ false
  not_closes before x h = go (nat_le least (suc before)) refl
    where
      go : (b : Bool) → nat_le least (suc before) ≡ b →
          (nat_le least (suc before) && test x) ≡ false
      go true e = rw e (h (leb-true least (suc before) e))
      go false e = rw e refl

  not_boundary : (before : ℕ) (x : A) → closes test least before x ≡ false → least ≤ suc before →
      test x ≡ false
  not_boundary before x h le = let e : nat_le least (suc before) ≡ true =
      le-leb least (suc before) le in rw e at h

  later : (before : ℕ) (x : A) (xs : List A) → NoneEarlierAt test least before (x ∷ xs) →
      NoneEarlierAt test least (suc before) xs
  later before x xs h front y z rest e le = h (x ∷ front) y z rest (ap (λ more. x ∷ more) e)
      (omega arith)

  ends_from : (before : ℕ) (g : List A) → (nat_le least (before + length g) && last_passes test g) ≡
      true → NoneEarlierAt test least before g → Ends test least before g
  ends_from before [] c h = false≢true (sym (and_false (nat_le least (before + 0))) ∙ c)
  ends_from before (x ∷ []) c h = rw add-one at c
  ends_from before (x ∷ y ∷ ys) c h =
      let e : before + suc (suc (length ys)) ≡ suc before + suc (length ys) = omega arith in (
        not_closes before x (λ le. h [] x y ys refl (omega arith)),
        ends_from (suc before) (y ∷ ys) (rw e at c) (later before x (y ∷ ys) h),
      )

  open_from : (before : ℕ) (g : List A) → (nat_le least (before + length g) && last_passes test g) ≡
      false → NoneEarlierAt test least before g → Open test least before g
  open_from before [] c h = tt
  open_from before (x ∷ []) c h = (rw add-one at c, tt)
  open_from before (x ∷ y ∷ ys) c h =
      let e : before + suc (suc (length ys)) ≡ suc before + suc (length ys) = omega arith in (
        not_closes before x (λ le. h [] x y ys refl (omega arith)),
        open_from (suc before) (y ∷ ys) (rw e at c) (later before x (y ∷ ys) h),
      )

  at_zero : (g : List A) → NoneEarlier test least g → NoneEarlierAt test least 0 g
  at_zero g h front x y rest e le = h front x y rest e (omega arith)

  ends_of : (g : List A) → is_closed test least g ≡ true → NoneEarlier test least g →
      Ends test least 0 g
  ends_of g c h = let e : length g ≡ 0 + length g = omega arith in
      ends_from 0 g (rw e at c) (at_zero g h)

  open_of : (g : List A) → is_closed test least g ≡ false → NoneEarlier test least g →
      Open test least 0 g
  open_of g c h = let e : length g ≡ 0 + length g = omega arith in
      open_from 0 g (rw e at c) (at_zero g h)

  last_of : (g : List A) → 0 < length g → NoneEarlier test least g → (b : Bool) →
      is_closed test least g ≡ b → PartsOf test least (g ∷ [])
  last_of g some none true e = record {
    gs = g ∷ [];
    rest = [];
    same = refl;
    ends = (ends_of g e none, tt);
    opens = tt;
  }
  last_of [] some none false e = absurd (omega arith)
  last_of (x ∷ xs) some none false e = record {
    gs = [];
    rest = x ∷ xs;
    same = refl;
    ends = tt;
    opens = open_of (x ∷ xs) e none;
  }

  parts_of : (groups : List (List A)) → AllByRecursion (λ group. 0 < length group) groups →
      AllButLast (λ group. is_closed test least group ≡ true) groups →
      AllByRecursion (NoneEarlier test least) groups → PartsOf test least groups
  parts_of [] some closed none = record { gs = []; rest = []; same = refl; ends = tt; opens = tt }
  parts_of (g ∷ []) some closed none = last_of g some.0 none.0 (is_closed test least g) refl
  parts_of (g ∷ h ∷ groups) some closed none =
      let p = parts_of (h ∷ groups) some.1 closed.1 none.1 in
      record {
        gs = g ∷ p.gs;
        rest = p.rest;
        same = ap (λ more. g ∷ more) p.same;
        ends = (ends_of g closed.0 none.0, p.ends);
        opens = p.opens;
      }

  pub only_split : (list : List A) (groups : List (List A)) → IsSplit test least list groups →
      groups ≡ split test least list
  only_split list groups s =
      let p = parts_of groups s.nonempty s.closed s.none_earlier in
      let e : flat p.gs ++ p.rest ≡ list = sym (flat_parts p.gs p.rest) ∙ ap flat (sym p.same) ∙
      s.whole in
      p.same ∙ sym (split_parts test least p.gs p.rest p.ends p.opens) ∙ ap (split test least) e

  -- ---- and the parts are a split

  none_of_ends : (before : ℕ) (g : List A) → Ends test least before g →
      NoneEarlierAt test least before g
  none_of_ends before [] h front x y rest e le = absurd h
  none_of_ends before (z ∷ []) h [] x y rest e le = cc
  none_of_ends before (z ∷ []) h (f ∷ []) x y rest e le = cc
  none_of_ends before (z ∷ []) h (f ∷ f' ∷ fs) x y rest e le = cc
  none_of_ends before (z ∷ w ∷ zs) h [] x y rest e le =
      not_boundary before x (subst (λ v. closes test least before v ≡ false)
      (head_is z x (w ∷ zs) (y ∷ rest) e) h.0) (omega arith)
  none_of_ends before (z ∷ w ∷ zs) h (f ∷ fs) x y rest e le =
      none_of_ends (suc before) (w ∷ zs) h.1 fs x y rest
      (tail_is z f (w ∷ zs) (fs ++ x ∷ y ∷ rest) e) (omega arith)

  none_of_open : (before : ℕ) (g : List A) → Open test least before g →
      NoneEarlierAt test least before g
  none_of_open before [] h [] x y rest e le = cc
  none_of_open before [] h (f ∷ fs) x y rest e le = cc
  none_of_open before (z ∷ zs) h [] x y rest e le =
      not_boundary before x (subst (λ v. closes test least before v ≡ false)
      (head_is z x zs (y ∷ rest) e) h.0) (omega arith)
  none_of_open before (z ∷ zs) h (f ∷ fs) x y rest e le =
      none_of_open (suc before) zs h.1 fs x y rest (tail_is z f zs (fs ++ x ∷ y ∷ rest) e)
      (omega arith)

  from_zero : (g : List A) → NoneEarlierAt test least 0 g → NoneEarlier test least g
  from_zero g h front x y rest e le = h front x y rest e (omega arith)

  pub ends_nonempty : (before : ℕ) (g : List A) → Ends test least before g → 0 < length g
  ends_nonempty before [] h = absurd h
  ends_nonempty before (x ∷ xs) h = omega arith

  all_nonempty : (gs : List (List A)) (rest : List A) → AllEnd test least 0 gs →
      AllByRecursion (λ group. 0 < length group) (gs ++ as_group rest)
  all_nonempty [] [] h = tt
  all_nonempty [] (x ∷ xs) h = (omega arith, tt)
  all_nonempty (g ∷ gs) rest h = (ends_nonempty 0 g h.0, all_nonempty gs rest h.1)

  all_but_last : (gs : List (List A)) (rest : List A) → AllEnd test least 0 gs →
      AllButLast (λ group. is_closed test least group ≡ true) (gs ++ as_group rest)
  all_but_last [] [] h = tt
  all_but_last [] (x ∷ xs) h = tt
  all_but_last (g ∷ []) [] h = tt
  all_but_last (g ∷ []) (x ∷ xs) h = (ends_closed test least g h.0, tt)
  all_but_last (g ∷ g' ∷ gs) rest h = (
    ends_closed test least g h.0,
    all_but_last (g' ∷ gs) rest h.1,
  )

  all_none : (gs : List (List A)) (rest : List A) → AllEnd test least 0 gs →
      Open test least 0 rest → AllByRecursion (NoneEarlier test least) (gs ++ as_group rest)
  all_none [] [] h o = tt
  all_none [] (x ∷ xs) h o = (from_zero (x ∷ xs) (none_of_open 0 (x ∷ xs) o), tt)
  all_none (g ∷ gs) rest h o = (from_zero g (none_of_ends 0 g h.0), all_none gs rest h.1 o)

  split_of_parts : (gs : List (List A)) (rest : List A) → AllEnd test least 0 gs →
      Open test least 0 rest → IsSplit test least (flat gs ++ rest) (gs ++ as_group rest)
  split_of_parts gs rest ends opens = record {
    whole = flat_parts gs rest;
    nonempty = all_nonempty gs rest ends;
    closed = all_but_last gs rest ends;
    none_earlier = all_none gs rest ends opens;
  }

  pub split_splits : (list : List A) → IsSplit test least list (split test least list)
  split_splits list =
      let p = parts test least list in
      let s : IsSplit test least (flat p.groups ++ p.rest)
      (split test least (flat p.groups ++ p.rest)) =
      subst (λ groups. IsSplit test least (flat p.groups ++ p.rest) groups)
      (sym (split_parts test least p.groups p.rest p.ends (open_rest_of test least list p)))
      (split_of_parts p.groups p.rest p.ends (open_rest_of test least list p)) in
      subst (λ xs. IsSplit test least xs (split test least xs)) p.whole s

  pub one_split : (list : List A) → OneSplit test least list
  one_split list = (split_splits list, only_split list)

-- ---- with least 2

module _ {A : Type 0} (test : A → Bool) where
  ends_two : (g : List A) → Ends test 2 0 g → 2 ≤ length g
  ends_two [] h = absurd h
  ends_two (x ∷ []) h = absurd (false≢true h)
  ends_two (x ∷ y ∷ ys) h = omega arith

  pub all_two : (gs : List (List A)) → AllEnd test 2 0 gs → 2 * length gs ≤ length (flat gs)
  all_two [] h = omega arith
  all_two (g ∷ gs) h =
      let one_more : 2 * length gs ≤ length (flat gs) = all_two gs h.1 in
      let first : 2 ≤ length g = ends_two g h.0 in
      omega (arith, length-append g (flat gs))

  length_as_group : (rest : List A) → 2 * length (as_group rest) ≤ length rest + 1
  length_as_group [] = omega arith
  length_as_group (x ∷ xs) = omega arith

  pub few_groups : (list : List A) → 2 * length (split test 2 list) ≤ length list + 1
  few_groups list =
      let p = parts test 2 list in
      let count : 2 * length (p.groups ++ as_group p.rest) ≤ length (flat p.groups ++ p.rest) + 1 =
      omega (
        arith,
        all_two p.groups p.ends,
        length_as_group p.rest,
        length-append p.groups (as_group p.rest),
        length-append (flat p.groups) p.rest,
      ) in
      subst (λ xs. 2 * length (split test 2 xs) ≤ length xs + 1) p.whole
      (subst (λ groups. 2 * length groups ≤ length (flat p.groups ++ p.rest) + 1)
      (sym (split_parts test 2 p.groups p.rest p.ends (open_rest_of test 2 list p))) count)
