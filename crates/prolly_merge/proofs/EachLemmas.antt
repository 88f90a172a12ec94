-- Relations between two lists, while a loop goes over them.
use Rattle.std.proofs.Common.{◌≡◌, ℕ, zero, suc, ◌+◌, List, [], ◌∷◌, length, Some, slice_get}
use Rattle.std.proofs.Common.{slice_set, refl, sym, subst, add-one}
use Rattle.prolly_merge.specs.Each.{Each, EachUpto}
use Rattle.prolly_merge.proofs.Equal.{none_some, some_same}

pub each_self : {A : Type 0} (R : A → A → Type 0) (xs : List A) → ((x : A) → R x x) → Each R xs xs
each_self R [] h = tt
each_self R (x ∷ xs) h = (h x, each_self R xs h)

cons_same : {A : Type 0} (x y : A) (xs ys : List A) → y ≡ x → ys ≡ xs → y ∷ ys ≡ x ∷ xs
cons_same x y xs ys e f = cc

pub each_same : {A : Type 0} (xs ys : List A) → Each (λ x y. y ≡ x) xs ys → ys ≡ xs
each_same [] [] h = refl
each_same [] (y ∷ ys) h = absurd h
each_same (x ∷ xs) [] h = absurd h
each_same (x ∷ xs) (y ∷ ys) h = cons_same x y xs ys h.0 (each_same xs ys h.1)

module _ {A B : Type 0} (R S : A → B → Type 0) where
  pub upto_all : (xs : List A) (ys : List B) → EachUpto R S (length ys) xs ys → Each R xs ys
  upto_all [] [] h = tt
  upto_all (x ∷ xs) [] h = absurd h
  upto_all [] (y ∷ ys) h = absurd h
  upto_all (x ∷ xs) (y ∷ ys) h = (h.0, upto_all xs ys h.1)

  -- The next value was replaced.
  pub upto_next : (k : ℕ) (xs : List A) (ys : List B) (y y' : B) → EachUpto R S k xs ys →
      slice_get ys k ≡ Some y → ((x : A) → slice_get xs k ≡ Some x → S x y → R x y') →
      EachUpto R S (suc k) xs (slice_set ys k y')
  upto_next k xs [] y y' h e f = absurd (none_some y e)
  upto_next zero [] (z ∷ ys) y y' h e f = absurd h
  upto_next zero (x ∷ xs) (z ∷ ys) y y' h e f = (f x refl (subst (S x) (some_same z y e) h.0), h.1)
  upto_next (suc k) [] (z ∷ ys) y y' h e f = absurd h
  upto_next (suc k) (x ∷ xs) (z ∷ ys) y y' h e f = (h.0, upto_next k xs ys y y' h.1 e f)

  -- The next value is as it was.
  pub upto_get : (k : ℕ) (xs : List A) (ys : List B) (x : A) (y : B) → EachUpto R S k xs ys →
      slice_get xs k ≡ Some x → slice_get ys k ≡ Some y → S x y
  upto_get k [] ys x y h e f = absurd (none_some x e)
  upto_get zero (w ∷ xs) [] x y h e f = absurd h
  upto_get zero (w ∷ xs) (z ∷ ys) x y h e f =
      subst (S x) (some_same z y f) (subst (λ v. S v z) (some_same w x e) h.0)
  upto_get (suc k) (w ∷ xs) [] x y h e f = absurd h
  upto_get (suc k) (w ∷ xs) (z ∷ ys) x y h e f = upto_get k xs ys x y h.1 e f

  -- The next value stayed.
  pub upto_skip : (k : ℕ) (xs : List A) (ys : List B) (y : B) → EachUpto R S k xs ys →
      slice_get ys k ≡ Some y → ((x : A) → S x y → R x y) → EachUpto R S (suc k) xs ys
  upto_skip k xs [] y h e f = absurd (none_some y e)
  upto_skip zero [] (z ∷ ys) y h e f = absurd h
  upto_skip zero (x ∷ xs) (z ∷ ys) y h e f = (
    subst (R x) (sym (some_same z y e))
        (f x (subst (S x) (some_same z y e) h.0)),
    h.1,
  )
  upto_skip (suc k) [] (z ∷ ys) y h e f = absurd h
  upto_skip (suc k) (x ∷ xs) (z ∷ ys) y h e f = (h.0, upto_skip k xs ys y h.1 e f)

  -- The same, as the loop counts.
  pub upto_at : (k : ℕ) (xs : List A) (ys zs : List B) → EachUpto R S (suc k) xs ys → zs ≡ ys →
      EachUpto R S (k + 1) xs zs
  upto_at k xs ys zs h e = subst (λ n. EachUpto R S n xs zs) (sym (add-one k))
      (subst (EachUpto R S (suc k) xs) (sym e) h)
