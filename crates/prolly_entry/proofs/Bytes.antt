-- The number that bytes spell.
use Rattle.std.proofs.Common.{◌≡◌, ℕ, ◌+◌, ◌*◌, ◌^◌, ◌<◌, List, [], ◌∷◌, ◌++◌, length, All, refl}
use Rattle.std.proofs.Common.{arith}
use Rattle.std.proofs.lemmas.List.Elements.{All-head, All-tail}
use Rattle.std.proofs.lemmas.Nat.{row_fits, same_from_place}
use Rattle.std.proofs.Math.Nat.{pow-suc}
use Rattle.prolly_entry.specs.Byte.{IsByte}
use Rattle.prolly_entry.specs.Reference.{number_of}

pub number_of-append : (high : ℕ) (xs ys : List ℕ) →
    number_of high (xs ++ ys) ≡ number_of (number_of high xs) ys
number_of-append high [] ys = refl
number_of-append high (x ∷ xs) ys = number_of-append (high * 256 + x) xs ys

-- what stands before the bytes is above them all
pub number_of-high : (high : ℕ) (bytes : List ℕ) →
    number_of high bytes ≡ high * 256 ^ length bytes + number_of 0 bytes
number_of-high high [] = omega arith
number_of-high high (b ∷ bytes) =
    let first = number_of-high (high * 256 + b) bytes in
    let rest = number_of-high (0 * 256 + b) bytes in
    rw (pow-suc 256 (length bytes)) (omega (arith, first, rest))

pub number_of-lt : (bytes : List ℕ) → All IsByte bytes → number_of 0 bytes < 256 ^ length bytes
number_of-lt [] small = omega arith
number_of-lt (b ∷ bytes) small =
    let first : b < 256 = All-head IsByte b bytes small in
    let rest = number_of-lt bytes (All-tail IsByte b bytes small) in
    let split = number_of-high (0 * 256 + b) bytes in
    let fits = row_fits b (256 ^ length bytes) 256 (256 ^ length bytes) first (omega arith) in
    omega (arith, rest, split, fits, pow-suc 256 (length bytes))

-- two lists of as many bytes that spell one number are the same, and so is what stands before them
pub same_bytes : (high high' : ℕ) (xs ys : List ℕ) → length xs ≡ length ys → All IsByte xs →
    All IsByte ys
    → number_of high xs ≡ number_of high' ys → (high ≡ high') × (xs ≡ ys)
same_bytes high high' [] [] lengths xs_small ys_small same = (same, refl)
same_bytes high high' [] (y ∷ ys) lengths xs_small ys_small same = absurd (omega arith)
same_bytes high high' (x ∷ xs) [] lengths xs_small ys_small same = absurd (omega arith)
same_bytes high high' (x ∷ xs) (y ∷ ys) lengths xs_small ys_small same =
    let xs_rest = All-tail IsByte x xs xs_small in
    let ys_rest = All-tail IsByte y ys ys_small in
    let rest = same_bytes (high * 256 + x) (high' * 256 + y) xs ys (omega arith) xs_rest ys_rest
    same in
    let x_small : x < 256 = All-head IsByte x xs xs_small in
    let y_small : y < 256 = All-head IsByte y ys ys_small in
    let place = same_from_place high x high' y 256 x_small y_small rest.0 in
    (place.0, cc (place.1, rest.1))
