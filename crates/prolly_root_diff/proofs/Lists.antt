-- Lists of what is due, and heads of lists.
use Rattle.std.proofs.Common.{◌≡◌, ℕ, ◌<◌, List, [], ◌∷◌, length, refl, sym, ap, ◌∙◌, arith}
use Rattle.std.proofs.Common.{slice_index_or}
use Rattle.prolly_root_diff.specs.Left.{Due as DueValue}
use Rattle.std.proofs.Common.{Bool, true, nat_eq}
use Rattle.std.specs.Cmp.Lexicographic.{pointwise}
use Rattle.std.proofs.lemmas.Bool.Decides.{Decides-eqb}
use Rattle.std.proofs.lemmas.Slice.Eq.{slice_eq-Decides}
use Rattle.prolly_root_diff.specs.Left.{Left}
use Rattle.prolly_root_diff.specs.Sides.{dues}
use Rattle.prolly_root_diff.specs.declared.siblings.Siblings.{Siblings}
use Rattle.std.specs.List.{flat_map}

pub head_is : {A : Type 0} (xs : List A) (x : A) → 0 < length xs → x ≡ slice_index_or xs 0 x →
    (rest : List A) × (xs ≡ x ∷ rest)
head_is [] x some e = absurd (omega arith)
head_is (y ∷ ys) x some e = (ys, ap (λ z. z ∷ ys) (sym e))

pub left_is : (l : Left) (ds : List DueValue) → l.pairs ≡ [] → l.due ≡ ds →
    l ≡ record { pairs = []; due = ds }
left_is l ds e f = ap (λ ps. record { pairs = ps; due = l.due }) e ∙
    ap (λ es. record { pairs = []; due = es }) f

pub same_bytes : (xs ys : List ℕ) (equal : Bool) → equal ≡ pointwise nat_eq xs ys →
    equal ≡ true → xs ≡ ys
same_bytes xs ys equal is e =
    (slice_eq-Decides Decides-eqb xs ys (pointwise nat_eq xs ys) refl).0 (sym is ∙ e)

pub some_due : {T : Type 0} (due : List (Siblings T)) → 0 < length due → 0 < length (flat_map dues due)
some_due [] some = some
some_due (s ∷ due) some = omega arith
