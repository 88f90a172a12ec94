-- Lists that begin or end with an element.
use Rattle.std.proofs.Common.{◌≡◌, List, [], ◌∷◌, ◌++◌, All, map, ap, sym, subst, ◌∙◌}
use Rattle.std.proofs.lemmas.List.{map-append}
use Rattle.std.proofs.lemmas.List.Elements.{All-head, All-tail, All-cons, All-nil, All-append}

module _ {T : Type 0} where
  pub all_first : (P : T → Type 0) (xs : List T) (x : T) (ys : List T) → xs ≡ x ∷ ys → All P xs →
      P x
  all_first P xs x ys is all = All-head P x ys (subst (λ (zs : List T). All P zs) is all)

  pub all_rest : (P : T → Type 0) (xs : List T) (x : T) (ys : List T) → xs ≡ x ∷ ys → All P xs →
      All P ys
  all_rest P xs x ys is all = All-tail P x ys (subst (λ (zs : List T). All P zs) is all)

  pub all_more : (P : T → Type 0) (xs : List T) (x : T) (ys : List T) → xs ≡ x ∷ ys → P x →
      All P ys → All P xs
  all_more P xs x ys is here rest = subst (λ (zs : List T). All P zs) (sym is)
      (All-cons P x ys here rest)

  pub all_and_last : (P : T → Type 0) (xs : List T) (x : T) (ys : List T) → ys ≡ xs ++ x ∷ [] →
      All P xs → P x → All P ys
  all_and_last P xs x ys is front last =
      subst (λ (zs : List T). All P zs) (sym is)
      (All-append P xs (x ∷ []) front (All-cons P x [] last (All-nil P)))

pub maps_and_last : {A B C : Type 0} (f : A → C) (g : B → C) (xs : List A) (x : A) (xs' : List A)
    (ys : List B) (y : B) (ys' : List B) →
    xs' ≡ xs ++ x ∷ [] → ys' ≡ ys ++ y ∷ [] → map f xs ≡ map g ys → f x ≡ g y →
    map f xs' ≡ map g ys'
maps_and_last {A} {B} {C} f g xs x xs' ys y ys' xs_is ys_is front last =
    ap (λ (zs : List A). map f zs) xs_is ∙ map-append f xs (x ∷ [])
    ∙ ap (λ (zs : List C). zs ++ f x ∷ []) front ∙ ap (λ (z : C). map g ys ++ z ∷ []) last
    ∙ sym (map-append g ys (y ∷ [])) ∙ sym (ap (λ (zs : List B). map g zs) ys_is)
