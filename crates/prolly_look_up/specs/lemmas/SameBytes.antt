-- What a comparison of bytes tells.
use Rattle.std.proofs.Common.{◌≡◌, ℕ, List, true, false, not, sym, ap, ◌∙◌}
use Rattle.std.specs.Str.{bytes_eq}
use Rattle.std.proofs.lemmas.Bool.{false≢true, not-false}
use Rattle.std.proofs.lemmas.Slice.Eq.{bytes_eq-Decides}

-- What `!=` of bytes says.
pub unequal : (x y : List ℕ) → true ≡ not (bytes_eq x y) → x ≡ y → ⊥
unequal x y e f = false≢true (sym (e ∙ ap not ((bytes_eq-Decides x y).1 f)))

-- And what `==` of bytes says.
pub equal : (x y : List ℕ) → false ≡ not (bytes_eq x y) → x ≡ y
equal x y e = (bytes_eq-Decides x y).0 (not-false (bytes_eq x y) (sym e))
