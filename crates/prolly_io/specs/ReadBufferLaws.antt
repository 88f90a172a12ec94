-- What follows from a read into a buffer.
use Rattle.std.proofs.Common.{◌≡◌, ◌∙◌, ℕ, Bool, List, ◌++◌, ap}
use Rattle.std.proofs.lemmas.List.{append-nil, nil_from_length}
use Rattle.prolly_io.specs.ReadBuffer.{Gains}

-- A read of no byte leaves the unparsed ones as they are.
pub gains_none : (honest : Bool) (left left' unparsed unparsed' : List ℕ) (n : ℕ) →
    Gains honest left left' unparsed unparsed' n → n ≡ 0 → unparsed' ≡ unparsed
gains_none honest left left' unparsed unparsed' n h none =
    h.behind ∙ (ap (λ (t : List ℕ). unparsed ++ t) (nil_from_length h.given (h.size ∙ none)) ∙
    append-nil unparsed)
