-- Texts in hexadecimal.
use Rattle.std.proofs.Common.{◌≡◌, ℕ, zero, suc, true, List, [], ◌∷◌, Ok, arith}
use Rattle.std.proofs.lemmas.List.Elements.{recursion_from_All}
use Rattle.std.specs.List.{AllByRecursion}
use Rattle.hex.specs.Hex.{decode_of, encode_lower, is_hex_digit, IsBytes}
use Rattle.hex.proofs.HexLemmas.{decode_of-encode_lower, decode_of-ok}
use Rattle.prolly_entry.specs.Byte.{IsByte}
use Rattle.prolly_text.specs.Notations.{IsShown}
use Rattle.prolly_text.specs.lemmas.Letters.{digit_prints, IsPrintable}
use Rattle.prolly_text.specs.lemmas.Shown.{printables_show}

pub are_bytes : (bytes : List ℕ) → AllByRecursion IsByte bytes → IsBytes bytes
are_bytes [] h i = grind arith
are_bytes (b ∷ bytes) h zero = h.0
are_bytes (b ∷ bytes) h (suc i) = are_bytes bytes h.1 i

pub digits_of : (text bytes : List ℕ) → decode_of text ≡ Ok bytes →
    AllByRecursion (λ b. is_hex_digit b ≡ true) text
digits_of text bytes h =
    recursion_from_All (λ b. is_hex_digit b ≡ true) text (decode_of-ok text bytes h).1

pub all_so : (P Q : ℕ → Type 0) → ((b : ℕ) → P b → Q b) → (bytes : List ℕ) →
    AllByRecursion P bytes → AllByRecursion Q bytes
all_so P Q so [] h = tt
all_so P Q so (b ∷ bytes) h = (so b h.0, all_so P Q so bytes h.1)

pub digits_print : (text bytes : List ℕ) → decode_of text ≡ Ok bytes →
    AllByRecursion IsPrintable text
digits_print text bytes h =
    all_so (λ b. is_hex_digit b ≡ true) IsPrintable digit_prints text (digits_of text bytes h)

pub digits_show : (text bytes : List ℕ) → decode_of text ≡ Ok bytes → IsShown text
digits_show text bytes h = printables_show text (digits_print text bytes h)

pub hex_read : (bytes : List ℕ) → AllByRecursion IsByte bytes →
    decode_of (encode_lower bytes) ≡ Ok bytes
hex_read bytes h = decode_of-encode_lower bytes (are_bytes bytes h)
