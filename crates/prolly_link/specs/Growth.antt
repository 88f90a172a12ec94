-- What a list gained at its end.
use Rattle.std.proofs.Common.{◌≡◌, List, [], ◌∷◌, ◌++◌, length, drop, refl, sym, ◌∙◌, ap}
use Rattle.std.proofs.Common.{append_assoc}
use Rattle.std.proofs.lemmas.List.{append-nil}

module _ {T : Type 0} where
  -- what `after` has beyond `before`
  abbrev pub items_between : List T → List T → List T
  items_between before after = drop (length before) after

  -- `after` begins with `before`
  abbrev pub Grew : List T → List T → Type 0
  Grew before after = after ≡ before ++ items_between before after

  drop-prefix : (xs ys : List T) → drop (length xs) (xs ++ ys) ≡ ys
  drop-prefix [] ys = refl
  drop-prefix (x ∷ xs) ys = drop-prefix xs ys

  -- what follows xs in zs, where zs begins with xs
  pub rest_is : (xs ys zs : List T) → zs ≡ xs ++ ys → items_between xs zs ≡ ys
  rest_is xs ys zs e = ap (drop (length xs)) e ∙ drop-prefix xs ys

  two_stretches : (xs ys zs p q : List T) → ys ≡ xs ++ p → zs ≡ ys ++ q → zs ≡ xs ++ (p ++ q)
  two_stretches xs ys zs p q e f = f ∙ ap (λ r. r ++ q) e ∙ append_assoc xs p q

  pub between_nothing : (a : List T) → Grew a a × (items_between a a ≡ [])
  between_nothing a =
      let none = rest_is a [] a (sym (append-nil a)) in
      (sym (ap (λ r. a ++ r) none ∙ append-nil a), none)

  pub between_more : (a b c : List T) → Grew a b → Grew b c →
      Grew a c × (items_between a c ≡ items_between a b ++ items_between b c)
  between_more a b c h k =
      let whole = two_stretches a b c (items_between a b) (items_between b c) h k in
      let both = rest_is a (items_between a b ++ items_between b c) c whole in
      (whole ∙ ap (λ r. a ++ r) (sym both), both)
