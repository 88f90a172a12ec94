-- A reference is 20 bytes, since the digest that it is the beginning of has 64.
use Rattle.std.proofs.Common.{ℕ, zero, suc, ◌/◌, ◌^◌, ◌<◌, List, All, ◌∙◌, arith}
use Rattle.std.proofs.lemmas.List.{length-take}
use Rattle.std.proofs.lemmas.List.Elements.{All-nil, All-cons, All-append, All-take}
use Rattle.std.proofs.lemmas.Nat.{mod_below}
use Rattle.std.specs.Int.{w64, to_be_bytes, byte_at, bytes_high_first}
use Rattle.std.specs.Prelude.{slice_index}
use Rattle.sha2.specs.Sha512.{digest_bytes, sha512}
use Rattle.sha2.proofs.Facts512.{length-sha512}
use Rattle.prolly_entry.specs.Byte.{IsByte}
use Rattle.prolly_entry.specs.Reference.{reference_of, IsReference}

byte_at-lt : (i number : ℕ) → byte_at i number < 256
byte_at-lt zero number = mod_below number 256 (omega arith)
byte_at-lt (suc i) number = mod_below (number / 256 ^ suc i) 256 (omega arith)

All-bytes_high_first : (n number : ℕ) → All IsByte (bytes_high_first n number)
All-bytes_high_first zero number = All-nil IsByte
All-bytes_high_first (suc n) number =
    All-cons IsByte (byte_at n number) (bytes_high_first n number) (byte_at-lt n number)
    (All-bytes_high_first n number)

All-digest_bytes : (words : List ℕ) (n : ℕ) → All IsByte (digest_bytes words n)
unfolding digest_bytes
All-digest_bytes words zero = All-nil IsByte
All-digest_bytes words (suc n) =
    let word = slice_index words n in
    All-append IsByte (digest_bytes words n) (to_be_bytes w64 word) (All-digest_bytes words n)
    (All-bytes_high_first 8 word)

All-sha512 : (bytes : List ℕ) → All IsByte (sha512 bytes)
unfolding sha512
All-sha512 bytes = All-digest_bytes _ 8

pub IsReference-reference_of : (bytes : List ℕ) → IsReference (reference_of bytes)
unfolding reference_of
IsReference-reference_of bytes = record {
  twenty = length-take 20 (sha512 bytes) ∙ omega (arith, length-sha512 bytes);
  in_range = All-take IsByte 20 (sha512 bytes) (All-sha512 bytes);
}
