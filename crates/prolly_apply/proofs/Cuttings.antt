-- How the leaves of an old tree are seen to be cut.
use Rattle.std.proofs.Common.{◌≡◌, ℕ, zero, suc, ◌+◌, ◌<◌, ◌≤◌, ◌⊎◌, inl, inr, Bool, true, false}
use Rattle.std.proofs.Common.{List, [], ◌∷◌, ◌++◌, length, take, drop, refl, sym, ap, ◌∙◌}
use Rattle.std.proofs.Common.{◌==◌, subst, arith, append_assoc, append-nil}
use Rattle.std.proofs.lemmas.Bool.{false≢true}
use Rattle.std.proofs.lemmas.Bool.Decides.{Decides-eqb}
use Rattle.std.proofs.lemmas.List.{length-append}
use Rattle.std.specs.List.{AllByRecursion}
use Rattle.prolly_entry.specs.Cut.{Cut}
use Rattle.prolly_entry.specs.Pair.{Pair}
use Rattle.prolly_entry.specs.lemmas.Lists.{all_append, all_back, all_front}
use Rattle.prolly_tree.specs.Split.{AllButLast, last_passes}
use Rattle.prolly_tree.specs.Tree.{pair_is_boundary}
use Rattle.prolly_chunk.specs.LeafLevel.{is_whole_leaf}
use Rattle.prolly_apply.specs.Cutting.{Admits, AreCut, EndsAtBoundary, IsAdmitted}
use Rattle.prolly_apply.specs.Cutting.{NoneInside, RestAreCut, Seen}
use Rattle.prolly_apply.specs.Taking.{IsCutAs}
use Rattle.prolly_apply.specs.lemmas.OldLeaves.{not_and, whole_inside}
use Rattle.prolly_apply.specs.declared.cutting.Cutting.{Cutting}

-- ---- lists

module _ {A : Type 0} (P : A → Type 0) where
  all_but : (xs : List A) (x : A) → AllByRecursion P xs → AllButLast P (xs ++ x ∷ [])
  all_but [] x h = tt
  all_but (y ∷ []) x h = (h.0, tt)
  all_but (y ∷ z ∷ xs) x h = (h.0, all_but (z ∷ xs) x h.1)

  all_are_but : (xs : List A) → AllByRecursion P xs → AllButLast P xs
  all_are_but [] h = tt
  all_are_but (x ∷ []) h = tt
  all_are_but (x ∷ y ∷ xs) h = (h.0, all_are_but (y ∷ xs) h.1)

  but_at : (xs : List A) (x y : A) (ys : List A) → AllButLast P (xs ++ x ∷ y ∷ ys) → P x
  but_at [] x y ys h = h.0
  but_at (z ∷ []) x y ys h = h.1.0
  but_at (z ∷ w ∷ xs) x y ys h = but_at (w ∷ xs) x y ys h.1

  pub drop_front : (n : ℕ) (xs ys : List A) → AllByRecursion P (drop n (xs ++ ys)) →
      AllByRecursion P (drop n xs)
  drop_front zero xs ys h = all_front P xs ys h
  drop_front (suc n) [] ys h = tt
  drop_front (suc n) (x ∷ xs) ys h = drop_front n xs ys h

  drop_at : (n : ℕ) (xs : List A) (x : A) → n ≤ length xs →
      AllByRecursion P (drop n (xs ++ x ∷ [])) → P x
  drop_at zero xs x e h = (all_back P xs (x ∷ []) h).0
  drop_at (suc n) [] x e h = absurd (omega arith)
  drop_at (suc n) (y ∷ xs) x e h = drop_at n xs x (omega arith) h

  take_one : (n : ℕ) (xs : List A) (x : A) → AllByRecursion P (take n xs) →
      (length xs < n → P x) → AllByRecursion P (take n (xs ++ x ∷ []))
  take_one zero xs x h k = tt
  take_one (suc zero) [] x h k = (k (omega arith), tt)
  take_one (suc (suc n)) [] x h k = (k (omega arith), tt)
  take_one (suc n) (y ∷ xs) x h k = (h.0, take_one n xs x h.1 (λ lt. k (omega arith)))

-- ---- tests

pub is_none : (n : ℕ) (b : Bool) → b ≡ (n == 0) → b ≡ true → n ≡ 0
is_none n b e h = (Decides-eqb n 0).0 (sym e ∙ h)

pub is_some : (n : ℕ) (b : Bool) → b ≡ (n == 0) → b ≡ false → n ≡ 0 → ⊥
is_some n b e h k = false≢true (sym h ∙ e ∙ (Decides-eqb n 0).1 k)

-- ---- one leaf

module _ (cut : Cut) where
  abbrev NotOne : Pair → Type 0
  NotOne p = pair_is_boundary cut p ≡ false

  -- The first pairs of a leaf are no boundaries.
  pub record NoneSeen (leaf left : List Pair) : Type 0 where
    pub front : List Pair
    pub whole : leaf ≡ front ++ left
    pub none : AllByRecursion (λ p. pair_is_boundary cut p ≡ false) front

  pub none_yet : (leaf : List Pair) → NoneSeen leaf leaf
  none_yet leaf = record { front = []; whole = refl; none = tt }

  pub none_more : (leaf left left' : List Pair) (p : Pair) → NoneSeen leaf left →
      left ≡ p ∷ left' → pair_is_boundary cut p ≡ false → NoneSeen leaf left'
  none_more leaf left left' p s e b = record {
    front = s.front ++ p ∷ [];
    whole = s.whole ∙ ap (λ ps. s.front ++ ps) e ∙ sym (append_assoc s.front (p ∷ []) left');
    none = all_append NotOne s.front (p ∷ []) s.none (b, tt);
  }

  pub none_last : (leaf left left' : List Pair) (p : Pair) → NoneSeen leaf left →
      left ≡ p ∷ left' → length left' ≡ 0 → NoneInside cut leaf
  none_last leaf left [] p s e n = subst (NoneInside cut)
      (sym (s.whole ∙ ap (λ ps. s.front ++ ps) e)) (all_but NotOne s.front p s.none)
  none_last leaf left (q ∷ left') p s e n = absurd (omega arith)

  pub none_all : (leaf left : List Pair) → NoneSeen leaf left → left ≡ [] → NoneInside cut leaf
  none_all leaf left s e = subst (NoneInside cut)
      (sym (s.whole ∙ ap (λ ps. s.front ++ ps) e ∙ append-nil s.front))
      (all_are_but NotOne s.front s.none)

  pub one_inside : (leaf left left' : List Pair) (p : Pair) → NoneSeen leaf left →
      left ≡ p ∷ left' → (length left' ≡ 0 → ⊥) → pair_is_boundary cut p ≡ true →
      NoneInside cut leaf → ⊥
  one_inside leaf left [] p s e n b h = n refl
  one_inside leaf left (q ∷ left') p s e n b h = false≢true (sym (but_at NotOne s.front p q left'
      (subst (NoneInside cut) (s.whole ∙ ap (λ ps. s.front ++ ps) e) h)) ∙ b)

  pub last_at : (front : List Pair) (p : Pair) →
      last_passes (pair_is_boundary cut) (front ++ p ∷ []) ≡ pair_is_boundary cut p
  last_at [] p = refl
  last_at (q ∷ []) p = refl
  last_at (q ∷ r ∷ front) p = last_at (r ∷ front) p

  -- Where pairs are gone, more are left.
  pub record SomeLeft (leaf left : List Pair) : Type 0 where
    pub front : List Pair
    pub whole : leaf ≡ front ++ left
    pub none : left ≡ [] → front ≡ []

  pub all_left : (leaf : List Pair) → SomeLeft leaf leaf
  all_left leaf = record { front = []; whole = refl; none = λ e. refl }

  pub fewer_left : (leaf left left' : List Pair) (p : Pair) → SomeLeft leaf left →
      left ≡ p ∷ left' → (length left' ≡ 0 → ⊥) → SomeLeft leaf left'
  fewer_left leaf left left' p s e n = record {
    front = s.front ++ p ∷ [];
    whole = s.whole ∙ ap (λ ps. s.front ++ ps) e ∙ sym (append_assoc s.front (p ∷ []) left');
    none = λ f. absurd (n (ap length f));
  }

  pub last_left : (leaf left left' : List Pair) (p : Pair) → SomeLeft leaf left →
      left ≡ p ∷ left' → length left' ≡ 0 →
      pair_is_boundary cut p ≡ last_passes (pair_is_boundary cut) leaf
  last_left leaf left [] p s e n = sym (ap (last_passes (pair_is_boundary cut))
      (s.whole ∙ ap (λ ps. s.front ++ ps) e) ∙ last_at s.front p)
  last_left leaf left (q ∷ left') p s e n = absurd (omega arith)

  pub none_left : (leaf left : List Pair) → SomeLeft leaf left → left ≡ [] →
      false ≡ last_passes (pair_is_boundary cut) leaf
  none_left leaf left s e = sym (ap (last_passes (pair_is_boundary cut))
      (s.whole ∙ ap (λ ps. ps ++ left) (s.none e) ∙ e))

  pub whole_is : (leaf : List Pair) → NoneInside cut leaf → EndsAtBoundary cut leaf →
      is_whole_leaf cut leaf ≡ true
  whole_is [] h e = e
  whole_is (p ∷ []) h e = e
  whole_is (p ∷ q ∷ leaf) h e = rw h.0 (whole_is (q ∷ leaf) h.1 e)

  whole_ends : (leaf : List Pair) → is_whole_leaf cut leaf ≡ true → EndsAtBoundary cut leaf
  whole_ends [] h = h
  whole_ends (p ∷ []) h = h
  whole_ends (p ∷ q ∷ leaf) h = whole_ends (q ∷ leaf)
      (not_and (pair_is_boundary cut p) (is_whole_leaf cut (q ∷ leaf)) h).1

  pub admitted_tested : (leaf : List Pair) (old : Cutting) (tested : ℕ) (ended : Bool) →
      old.ended ≡ true → ended ≡ last_passes (pair_is_boundary cut) leaf → old.tested < 40 →
      tested ≡ old.tested + 1 → NoneInside cut leaf →
      IsAdmitted cut leaf old (record { tested = tested; ended = ended })
  admitted_tested leaf old tested ended was e lt n inside = record {
    was = was;
    ended = e;
    inside = λ lt. (inside, n);
    beyond = λ le. absurd (omega arith);
  }

  pub admitted_beyond : (leaf : List Pair) (old : Cutting) (tested : ℕ) (ended : Bool) →
      old.ended ≡ true → ended ≡ last_passes (pair_is_boundary cut) leaf →
      (old.tested < 40 → ⊥) → tested ≡ old.tested →
      IsAdmitted cut leaf old (record { tested = tested; ended = ended })
  admitted_beyond leaf old tested ended was e lt n = record {
    was = was;
    ended = e;
    inside = λ less. absurd (lt less);
    beyond = λ le. n;
  }

  -- ---- leaf by leaf

  cut_at : (leaves : List (List Pair)) (leaf next : List Pair) (more : List (List Pair)) →
      AreCut cut (leaves ++ leaf ∷ next ∷ more) → is_whole_leaf cut leaf ≡ true
  cut_at [] leaf next more h = h.0
  cut_at (l ∷ []) leaf next more h = h.1.0
  cut_at (l ∷ k ∷ leaves) leaf next more h = cut_at (k ∷ leaves) leaf next more h.1

  cut_inside : (leaves : List (List Pair)) (leaf : List Pair) (more : List (List Pair)) →
      AreCut cut (leaves ++ leaf ∷ more) → NoneInside cut leaf
  cut_inside [] leaf [] h = h
  cut_inside [] leaf (next ∷ more) h = whole_inside cut leaf h.0
  cut_inside (l ∷ []) leaf more h = cut_inside [] leaf more h.1
  cut_inside (l ∷ k ∷ leaves) leaf more h = cut_inside (k ∷ leaves) leaf more h.1

  pub seen_none : (cutting : Cutting) → cutting.tested ≡ 0 → cutting.ended ≡ true →
      Seen cut [] cutting
  seen_none cutting none ended = record {
    few = λ lt. none;
    most = omega arith;
    are = record { inside = tt; ends = tt };
    ended = λ e. tt;
    last = λ e next more h. false≢true (sym e ∙ ended);
  }

  less_or : (n k : ℕ) → (n < k) ⊎ (k ≤ n)
  less_or zero zero = inr (omega arith)
  less_or zero (suc k) = inl (omega arith)
  less_or (suc n) zero = inr (omega arith)
  less_or (suc n) (suc k) = elim (less_or n k) [
    | inl h ↦ inl (omega arith)
    | inr h ↦ inr (omega arith)
  ]

  pub seen_more : (leaves : List (List Pair)) (leaf : List Pair) (old new : Cutting) →
      Seen cut leaves old → IsAdmitted cut leaf old new → Seen cut (leaves ++ leaf ∷ []) new
  seen_more leaves leaf old new s a =
      let one : length (leaves ++ leaf ∷ []) ≡ length leaves + 1 =
      length-append leaves (leaf ∷ []) in record {
        few = λ lt. few one lt (less_or old.tested 40);
        most = most one (less_or old.tested 40);
        are = record {
          inside = take_one (NoneInside cut) 40 leaves leaf s.are.inside
              (λ lt. (a.inside (let m = s.most in omega arith)).0);
          ends = all_but (EndsAtBoundary cut) leaves leaf (s.ended a.was);
        };
        ended = λ e. all_append (EndsAtBoundary cut) leaves (leaf ∷ []) (s.ended a.was)
            (sym a.ended ∙ e, tt);
        last = λ e next more h. false≢true (sym e ∙ a.ended ∙ whole_ends leaf
            (cut_at leaves leaf next more (subst (AreCut cut)
            (append_assoc leaves (leaf ∷ []) (next ∷ more)) h)));
      }
    where
      few : length (leaves ++ leaf ∷ []) ≡ length leaves + 1 → new.tested < 40 →
          (old.tested < 40) ⊎ (40 ≤ old.tested) → new.tested ≡ length (leaves ++ leaf ∷ [])
      few one lt (inl h) = let f = s.few h in let n = (a.inside h).1 in omega arith
      few one lt (inr h) = let n = a.beyond h in absurd (omega arith)

      most : length (leaves ++ leaf ∷ []) ≡ length leaves + 1 →
          (old.tested < 40) ⊎ (40 ≤ old.tested) → new.tested ≤ length (leaves ++ leaf ∷ [])
      most one (inl h) = let m = s.most in let n = (a.inside h).1 in omega arith
      most one (inr h) = let m = s.most in let n = a.beyond h in omega arith

  -- A leaf is cut so, where those that are not tested are.
  pub leaf_is_cut : (leaves : List (List Pair)) (leaf : List Pair) (old new : Cutting)
      (ends : Bool) → Seen cut leaves old → IsAdmitted cut leaf old new → ends ≡ new.ended →
      RestAreCut cut (leaves ++ leaf ∷ []) → IsCutAs ends leaf cut
  leaf_is_cut leaves leaf old new ends s a same rest = record {
    inside = inside (less_or old.tested 40);
    last = sym a.ended ∙ sym same;
  }
    where
      inside : (old.tested < 40) ⊎ (40 ≤ old.tested) → NoneInside cut leaf
      inside (inl h) = (a.inside h).0
      inside (inr h) = drop_at (NoneInside cut) 40 leaves leaf (let m = s.most in omega arith) rest

  pub rest_front : (leaves more : List (List Pair)) → RestAreCut cut (leaves ++ more) →
      RestAreCut cut leaves
  rest_front leaves more h = drop_front (NoneInside cut) 40 leaves more h

  -- What is not admitted is not cut so.
  pub refused_is_wrong : (leaves : List (List Pair)) (leaf : List Pair) (old new : Cutting)
      (more : List (List Pair)) → Seen cut leaves old → Admits cut leaf old new false →
      AreCut cut ((leaves ++ leaf ∷ []) ++ more) → ⊥
  refused_is_wrong leaves leaf old new more s (inl h) c =
      s.last h leaf more (subst (AreCut cut) (append_assoc leaves (leaf ∷ []) more) c)
  refused_is_wrong leaves leaf old new more s (inr h) c =
      h (cut_inside leaves leaf more (subst (AreCut cut) (append_assoc leaves (leaf ∷ []) more) c))
