-- The first place of a byte.
use Rattle.std.proofs.Common.{◌≡◌, ◌≢◌, ℕ, ◌<◌, ◌≤◌, List, length, take, All}
use Rattle.std.proofs.Common.{Some, ap, ◌∙◌, sym, arith, get_or}
use Rattle.std.specs.Prelude.{slice_get}
use Rattle.std.proofs.lemmas.Bool.{eq-eqb, eqb-true}
use Rattle.std.proofs.lemmas.List.{get_or-take, length-take-le}
use Rattle.std.proofs.lemmas.List.Elements.{All-from_get_or}
use Rattle.std.proofs.lemmas.Option.{slice_get-get_or}
use Rattle.memchr.specs.Find.{Nowhere, Passes, is_byte}

-- The byte is not among the first ones.
pub none_before : (byte : ℕ) (xs : List ℕ) (n : ℕ) → n ≤ length xs →
    Nowhere (Passes (is_byte byte) xs) 0 n → All (λ b. b ≢ byte) (take n xs)
none_before byte xs n within none =
    let size : length (take n xs) ≡ n = length-take-le n xs within in
    All-from_get_or (λ b. b ≢ byte) (take n xs) 0
    (λ i h e. let low : i < n = omega arith in none i (omega arith) low
    (eq-eqb (get_or xs i 0) byte (sym (get_or-take n xs i 0 low) ∙ e)))

-- It stands at its place.
pub stands_there : (byte : ℕ) (xs : List ℕ) (n : ℕ) → n < length xs →
    Passes (is_byte byte) xs n → slice_get xs n ≡ Some byte
stands_there byte xs n within is =
    slice_get-get_or xs n 0 within ∙ ap Some (eqb-true (get_or xs n 0) byte is)
