-- A list is its closed groups and an open rest, and its split is these.
use Rattle.std.proofs.Common.{◌≡◌, ℕ, suc, ◌+◌, Bool, true, false, not, ◌&&◌, nat_le, List, [], ◌∷◌}
use Rattle.std.proofs.Common.{◌++◌, length, refl, ap, ◌∙◌, arith, add-one, append_assoc, append-nil}
use Rattle.std.specs.List.{filter}
use Rattle.prolly_tree.specs.Split.{last_passes, is_closed, in_front, split_after, split}
use Rattle.prolly_tree.specs.Split.{closed_groups, open_groups}
use Rattle.prolly_tree.specs.lemmas.Splits.{flat, as_group, closes, Open, Ends, AllEnd, OpenAfter}
use Rattle.prolly_tree.specs.lemmas.Splits.{Parts}

module _ {A : Type 0} (test : A → Bool) (least : ℕ) where
  pub open_at_zero : (gs : List (List A)) (rest : List A) → OpenAfter test least 0 gs rest →
      Open test least 0 rest
  open_at_zero [] rest h = h
  open_at_zero (g ∷ gs) rest h = h

  pub after_zero : (gs : List (List A)) (rest : List A) → Open test least 0 rest →
      OpenAfter test least 0 gs rest
  after_zero [] rest h = h
  after_zero (g ∷ gs) rest h = h

  pub ends_more : (before : ℕ) (x : A) (g : List A) → closes test least before x ≡ false →
      Ends test least (suc before) g → Ends test least before (x ∷ g)
  ends_more before x [] e h = absurd h
  ends_more before x (y ∷ ys) e h = (e, h)

  parts_true : (before : ℕ) (x : A) (xs : List A) → closes test least before x ≡ true →
      Parts test least 0 xs → Parts test least before (x ∷ xs)
  parts_true before x xs e p = record {
    groups = (x ∷ []) ∷ p.groups;
    rest = p.rest;
    whole = ap (λ ys. x ∷ ys) p.whole;
    ends = (e, p.ends);
    «open» = open_at_zero p.groups p.rest p.«open»;
  }

  parts_false : (before : ℕ) (x : A) (xs : List A) → closes test least before x ≡ false →
      (gs : List (List A)) (rest : List A) → flat gs ++ rest ≡ xs →
      AllEnd test least (suc before) gs → OpenAfter test least (suc before) gs rest →
      Parts test least before (x ∷ xs)
  parts_false before x xs e [] rest whole ends opens = record {
    groups = [];
    rest = x ∷ rest;
    whole = ap (λ ys. x ∷ ys) whole;
    ends = tt;
    «open» = (e, opens);
  }
  parts_false before x xs e (g ∷ gs) rest whole ends opens = record {
    groups = (x ∷ g) ∷ gs;
    rest = rest;
    whole = ap (λ ys. x ∷ ys) whole;
    ends = (ends_more before x g e ends.0, ends.1);
    «open» = opens;
  }

  parts_by : (before : ℕ) (x : A) (xs : List A) → ((b : ℕ) → Parts test least b xs) → (b : Bool) →
      closes test least before x ≡ b → Parts test least before (x ∷ xs)
  parts_by before x xs more true e = parts_true before x xs e (more 0)
  parts_by before x xs more false e = let p = more (suc before) in
      parts_false before x xs e p.groups p.rest p.whole p.ends p.«open»

  pub parts_after : (xs : List A) (before : ℕ) → Parts test least before xs
  parts_after [] before = record { groups = []; rest = []; whole = refl; ends = tt; «open» = tt }
  parts_after (x ∷ xs) before = parts_by before x xs (λ b. parts_after xs b)
      (closes test least before x) refl

  pub parts : (xs : List A) → Parts test least 0 xs
  parts xs = parts_after xs 0

  pub open_rest_of : (xs : List A) (p : Parts test least 0 xs) → Open test least 0 p.rest
  open_rest_of xs p = open_at_zero p.groups p.rest p.«open»

  -- ---- the split of the parts

  pub step_true : (before : ℕ) (x : A) (xs : List A) → closes test least before x ≡ true →
      split_after test least before (x ∷ xs) ≡ (x ∷ []) ∷ split_after test least 0 xs
  step_true before x xs h = rw (h, split_after) refl

  pub step_false : (before : ℕ) (x : A) (xs : List A) → closes test least before x ≡ false →
      split_after test least before (x ∷ xs) ≡ in_front x (split_after test least (suc before) xs)
  step_false before x xs h = rw (h, split_after) refl

  pub split_ends : (before : ℕ) (g zs : List A) → Ends test least before g →
      split_after test least before (g ++ zs) ≡ g ∷ split_after test least 0 zs
  split_ends before [] zs h = absurd h
  split_ends before (x ∷ []) zs h = step_true before x zs h
  split_ends before (x ∷ y ∷ ys) zs h = step_false before x ((y ∷ ys) ++ zs) h.0
      ∙ ap (in_front x) (split_ends (suc before) (y ∷ ys) zs h.1)

  pub split_open : (before : ℕ) (xs : List A) → Open test least before xs →
      split_after test least before xs ≡ as_group xs
  split_open before [] h = refl
  split_open before (x ∷ []) h = step_false before x [] h.0
  split_open before (x ∷ y ∷ ys) h = step_false before x (y ∷ ys) h.0
      ∙ ap (in_front x) (split_open (suc before) (y ∷ ys) h.1)

  split_parts_at : (before : ℕ) (gs : List (List A)) (rest : List A) → AllEnd test least before gs →
      OpenAfter test least before gs rest →
      split_after test least before (flat gs ++ rest) ≡ gs ++ as_group rest
  split_parts_at before [] rest ends opens = split_open before rest opens
  split_parts_at before (g ∷ gs) rest ends opens =
      rw append_assoc (split_ends before g (flat gs ++ rest) ends.0
      ∙ ap (λ more. g ∷ more) (split_parts_at 0 gs rest ends.1 (after_zero gs rest opens)))

  -- ---- which of them are closed

  and_false : (b : Bool) → (b && false) ≡ false
  and_false true = refl
  and_false false = refl

  ends_closed_at : (before : ℕ) (g : List A) → Ends test least before g →
      (nat_le least (before + length g) && last_passes test g) ≡ true
  ends_closed_at before [] h = absurd h
  ends_closed_at before (x ∷ []) h = rw add-one h
  ends_closed_at before (x ∷ y ∷ ys) h = let e : before + suc (suc (length ys)) ≡ suc before +
      suc (length ys) = omega arith in
      rw e (ends_closed_at (suc before) (y ∷ ys) h.1)

  open_not_closed_at : (before : ℕ) (g : List A) → Open test least before g →
      (nat_le least (before + length g) && last_passes test g) ≡ false
  open_not_closed_at before [] h = and_false (nat_le least (before + 0))
  open_not_closed_at before (x ∷ []) h = rw add-one h.0
  open_not_closed_at before (x ∷ y ∷ ys) h = let e : before + suc (suc (length ys)) ≡ suc before +
      suc (length ys) = omega arith in
      rw e (open_not_closed_at (suc before) (y ∷ ys) h.1)

  pub ends_closed : (g : List A) → Ends test least 0 g → is_closed test least g ≡ true
  ends_closed g h = let e : 0 + length g ≡ length g = omega arith in rw e at (ends_closed_at 0 g h)

  pub open_not_closed : (g : List A) → Open test least 0 g → is_closed test least g ≡ false
  open_not_closed g h = let e : 0 + length g ≡ length g = omega arith in
      rw e at (open_not_closed_at 0 g h)

  pub split_parts : (gs : List (List A)) (rest : List A) → AllEnd test least 0 gs →
      Open test least 0 rest →
      split test least (flat gs ++ rest) ≡ gs ++ as_group rest
  unfolding split
  split_parts gs rest ends opens = split_parts_at 0 gs rest ends (after_zero gs rest opens)

  filter_ends : (gs more : List (List A)) → AllEnd test least 0 gs →
      filter (is_closed test least) (gs ++ more) ≡ gs ++ filter (is_closed test least) more
  filter_ends [] more h = refl
  filter_ends (g ∷ gs) more h = rw (ends_closed g h.0)
      (ap (λ more. g ∷ more) (filter_ends gs more h.1))

  filter_not_ends : (gs more : List (List A)) → AllEnd test least 0 gs →
      filter (λ g. not (is_closed test least g)) (gs ++ more) ≡
      filter (λ g. not (is_closed test least g)) more
  filter_not_ends [] more h = refl
  filter_not_ends (g ∷ gs) more h = rw (ends_closed g h.0) (filter_not_ends gs more h.1)

  closed_rest : (rest : List A) → Open test least 0 rest →
      filter (is_closed test least) (as_group rest) ≡ []
  closed_rest [] h = refl
  closed_rest (x ∷ xs) h = rw (open_not_closed (x ∷ xs) h)

  open_group : (rest : List A) → Open test least 0 rest →
      filter (λ g. not (is_closed test least g)) (as_group rest) ≡ as_group rest
  open_group [] h = refl
  open_group (x ∷ xs) h = rw (open_not_closed (x ∷ xs) h)

  pub closed_parts : (gs : List (List A)) (rest : List A) → AllEnd test least 0 gs →
      Open test least 0 rest →
      closed_groups test least (flat gs ++ rest) ≡ gs
  closed_parts gs rest ends opens = rw (split_parts gs rest ends opens)
      (filter_ends gs (as_group rest) ends ∙ ap (λ more. gs ++ more) (closed_rest rest opens) ∙
      append-nil gs)

  pub open_parts : (gs : List (List A)) (rest : List A) → AllEnd test least 0 gs →
      Open test least 0 rest →
      open_groups test least (flat gs ++ rest) ≡ as_group rest
  open_parts gs rest ends opens = rw (split_parts gs rest ends opens)
      (filter_not_ends gs (as_group rest) ends ∙ open_group rest opens)
