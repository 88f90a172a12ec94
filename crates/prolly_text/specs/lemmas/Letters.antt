-- The characters that have a letter, and those that stand for themselves.
use Rattle.std.proofs.Common.{◌≡◌, ℕ, ◌<◌, ◌≤◌, true, false, Some, None, arith}
use Rattle.std.proofs.lemmas.Bool.Decides.{nat_tests}
use Rattle.std.specs.Prelude.{◌==◌}
use Rattle.hex.specs.Hex.{is_hex_digit}
use Rattle.prolly_text.specs.Escapes.{is_hidden, letter_of}
use Rattle.prolly_text.specs.Pieces.{is_plain, named_byte}

-- A letter names the character that it stands for, which is one byte.
pub letter_names : (character letter : ℕ) → letter_of character ≡ Some letter →
    named_byte letter ≡ Some character
letter_names character letter h = grind (arith, nat_tests)

pub letter_low : (character letter : ℕ) → letter_of character ≡ Some letter → character < 0x80
letter_low character letter h = grind (arith, nat_tests)

pub no_backslash : (character : ℕ) → letter_of character ≡ None → (character == 0x5C) ≡ false
no_backslash character h = grind (arith, nat_tests)

-- What is not hidden and no backslash stands for itself, and so does each byte that is
-- not ASCII.
pub plain_low : (character : ℕ) → is_hidden character ≡ false → (character == 0x5C) ≡ false →
    is_plain character ≡ true
plain_low character h k = grind (arith, nat_tests)

pub plain_high : (byte : ℕ) → 0x80 ≤ byte → is_plain byte ≡ true
plain_high byte h = grind (arith, nat_tests)

-- The character is one of ASCII, and shows.
abbrev pub IsPrintable : ℕ → Type 0
IsPrintable character = (0x20 ≤ character) × (character < 0x7F)

pub letter_prints : (character letter : ℕ) → letter_of character ≡ Some letter → IsPrintable letter
letter_prints character letter h = grind (arith, nat_tests)

pub digit_prints : (digit : ℕ) → is_hex_digit digit ≡ true → IsPrintable digit
digit_prints digit h = grind (arith, nat_tests)
