-- Two elements in the place of one.
use Rattle.std.proofs.Common.{◌≡◌, ℕ, ◌+◌, List, [], ◌∷◌, ◌++◌, All, map, length, suc, refl, ap}
use Rattle.std.proofs.Common.{sym, subst, ◌∙◌, arith}
use Rattle.std.proofs.lemmas.List.{length-map, map-append}
use Rattle.std.proofs.lemmas.List.Elements.{All-head, All-tail, All-cons, All-nil, All-append}
use Rattle.prolly_build.specs.Lists.{IsForked}

module _ {T : Type 0} where
  pub fork_here : (at : ℕ) (old : List T) (one : T) (back new : List T) (left right : T) → at ≡ 0 →
      old ≡ one ∷ back → new ≡ left ∷ right ∷ back →
      IsForked at old one new left right
  fork_here at old one back new left right at_is old_is new_is =
      record { front = []; back = back; place = sym at_is; was = old_is; now = new_is }

  pub fork_later : (at low : ℕ) (first : T) (old old_rest : List T) (one : T)
      (new new_rest : List T) (left right : T) → at ≡ low + 1 → old ≡ first ∷ old_rest →
      new ≡ first ∷ new_rest → IsForked low old_rest one new_rest left right →
      IsForked at old one new left right
  fork_later at low first old old_rest one new new_rest left right at_is old_is new_is h = record {
    front = first ∷ h.front;
    back = h.back;
    place = let p = h.place in omega arith;
    was = old_is ∙ ap (λ (xs : List T). first ∷ xs) h.was;
    now = new_is ∙ ap (λ (xs : List T). first ∷ xs) h.now;
  }

  middle : (P : T → Type 0) (front : List T) (x : T) (back : List T) → All P (front ++ x ∷ back) →
      P x × All P front × All P back
  middle P [] x back all = (All-head P x back all, All-nil P, All-tail P x back all)
  middle P (y ∷ ys) x back all =
      let h = middle P ys x back (All-tail P y (ys ++ x ∷ back) all) in
      (h.0, All-cons P y ys (All-head P y (ys ++ x ∷ back) all) h.1, h.2)

  -- what holds of all elements holds of the one that two take the place of, and of all once it
  -- holds of the two
  pub forked_one : (P : T → Type 0) {at : ℕ} {old new : List T} {one left right : T} →
      IsForked at old one new left right → All P old → P one
  forked_one P {one} fork all = (middle P fork.front one fork.back
      (subst (λ (xs : List T). All P xs) fork.was all)).0

  pub forked_all : (P : T → Type 0) {at : ℕ} {old new : List T} {one left right : T} →
      IsForked at old one new left right →
      All P old → P left → P right → All P new
  forked_all P {one} {left} {right} fork all of_left of_right =
      let parts = middle P fork.front one fork.back (subst (λ (xs : List T). All P xs) fork.was all)
      in
      let whole : All P (fork.front ++ left ∷ right ∷ fork.back) =
      All-append P fork.front (left ∷ right ∷ fork.back) parts.1
      (All-cons P left (right ∷ fork.back) of_left
      (All-cons P right fork.back of_right parts.2)) in
      subst (λ (xs : List T). All P xs) (sym fork.now) whole

module _ {A C : Type 0} (f : A → C) where
  -- a function of the elements keeps forks
  pub forked_map : {at : ℕ} {old new : List A} {one left right : A} →
      IsForked at old one new left right →
      IsForked at (map f old) (f one) (map f new) (f left) (f right)
  forked_map {one} {left} {right} fork = record {
    front = map f fork.front;
    back = map f fork.back;
    place = length-map fork.front f ∙ fork.place;
    was = ap (λ (xs : List A). map f xs) fork.was ∙ map-append f fork.front (one ∷ fork.back);
    now = ap (λ (xs : List A). map f xs) fork.now ∙
        map-append f fork.front (left ∷ right ∷ fork.back);
  }

module _ {A B C : Type 0} (f : A → C) (g : B → C) where
  apart : (front : List A) (front' : List B) (a b : A) (l r : B) (back : List A) (back' : List B) →
      length front ≡ length front' →
      map f (front ++ a ∷ b ∷ back) ≡ map g (front' ++ l ∷ r ∷ back') →
      (f a ≡ g l) × (f b ≡ g r) × ((m : A) (o : B) → f m ≡ g o →
      map f (front ++ m ∷ back) ≡ map g (front' ++ o ∷ back'))
  apart [] [] a b l r back back' same e =
      let rest : map f back ≡ map g back' = cc in
      (cc, cc, λ m o h. cc (rest, h))
  apart [] (d ∷ ds) a b l r back back' same e = absurd (omega arith)
  apart (c ∷ cs) [] a b l r back back' same e = absurd (omega arith)
  apart (c ∷ cs) (d ∷ ds) a b l r back back' same e =
      let first : f c ≡ g d = cc in
      let h = apart cs ds a b l r back back' (omega arith) cc in
      (h.0, h.1, λ m o k. let rest = h.2 m o k in cc (rest, first))

  -- where two lists are forked at one place, and agree by these functions, so do the two elements,
  -- and the lists without the fork
  pub forked_maps : {at : ℕ} {old new : List A} {m a b : A} {old' new' : List B} {o l r : B} →
      IsForked at old m new a b → IsForked at old' o new' l r →
      map f new ≡ map g new' → (f a ≡ g l) × (f b ≡ g r) × (f m ≡ g o → map f old ≡ map g old')
  forked_maps {m} {a} {b} {o} {l} {r} fork fork' e =
      let whole : map f (fork.front ++ a ∷ b ∷ fork.back) ≡
      map g (fork'.front ++ l ∷ r ∷ fork'.back) =
      ap (λ (xs : List A). map f xs) (sym fork.now) ∙ (e ∙ ap (λ (xs : List B). map g xs) fork'.now)
      in
      let h = apart fork.front fork'.front a b l r fork.back fork'.back
      (fork.place ∙ sym fork'.place) whole in (
        h.0,
        h.1,
        λ k. ap (λ (xs : List A). map f xs) fork.was ∙
            (h.2 m o k ∙ ap (λ (xs : List B). map g xs) (sym fork'.was)),
      )

  pub same_length : (xs : List A) (ys : List B) → map f xs ≡ map g ys → length xs ≡ length ys
  same_length [] [] e = refl
  same_length [] (y ∷ ys) e = cc
  same_length (x ∷ xs) [] e = cc
  same_length (x ∷ xs) (y ∷ ys) e = let h = same_length xs ys cc in ap suc h
