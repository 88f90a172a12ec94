-- First faults where there is none.
use Rattle.std.proofs.Common.{◌≡◌, ℕ, suc, List, [], ◌∷◌, refl, ap, ◌∙◌, cond, true, false}
use Rattle.std.proofs.Common.{Bool, Option, Some, None}
use Rattle.std.proofs.lemmas.Slice.Eq.{bytes_eq-Decides}
use Rattle.std.specs.Str.{bytes_eq}
use Rattle.prolly_entry.specs.Overlay.{or_else}
use Rattle.prolly_check.specs.FirstFault.{difference}
use Rattle.prolly_check.specs.declared.verdict.fault.CheckFault.TheVariants.{NotCanonical}

-- Where there is no first fault, there is none of either kind.
pub or_none : {A : Type 0} (a b : Option A) → or_else a b ≡ None → (a ≡ None) × (b ≡ None)
or_none None b e = (refl, e)
or_none (Some x) b e = cc

-- A test with no fault was passed, and what follows it has none.
pub if_none : {F : Type 0} (t : Bool) (f : F) (o : Option F) → cond t o (Some f) ≡ None →
    (t ≡ true) × (o ≡ None)
if_none true f o e = (refl, e)
if_none false f o e = cc

-- Chunks that do not differ are the same.
pub difference_ok : (number : ℕ) (cs ds : List (List ℕ)) → difference number cs ds ≡ None → cs ≡ ds
difference_ok number [] [] h = refl
difference_ok number [] (d ∷ ds) h = cc
difference_ok number (c ∷ cs) [] h = cc
difference_ok number (c ∷ cs) (d ∷ ds) h =
    let s = if_none (bytes_eq c d) (NotCanonical number) (difference (suc number) cs ds) h in
    ap (λ x. x ∷ cs) ((bytes_eq-Decides c d).0 s.0) ∙
    ap (λ xs. d ∷ xs) (difference_ok (suc number) cs ds s.1)
