-- Texts that stand for bytes, and show.
use Rattle.std.proofs.Common.{◌≡◌, inl, inr, ℕ, ◌≤◌, Bool, true, false, cond}
use Rattle.std.proofs.Common.{List, [], ◌∷◌, ◌++◌, Option, Some, None}
use Rattle.std.proofs.Common.{refl, sym, subst, arith, append-nil}
use Rattle.std.proofs.lemmas.Bool.{cases_lt}
use Rattle.std.proofs.lemmas.Bool.Decides.{nat_tests}
use Rattle.std.proofs.lemmas.Str.{encode_ascii, encodes-chars}
use Rattle.std.specs.Prelude.{◌==◌}
use Rattle.std.specs.Char.{encode_utf8, IsScalar}
use Rattle.std.specs.List.{flat_map, AllByRecursion}
use Rattle.std.specs.Str.{chars, encode_utf8_all, IsUtf8}
use Rattle.hex.specs.Hex.{encode_lower}
use Rattle.prolly_entry.specs.Byte.{IsByte}
use Rattle.prolly_entry.specs.lemmas.Lists.{all_back, all_front}
use Rattle.prolly_text.specs.Escapes.{hex_escape, is_hidden, letter_of, shown_by, shown_character}
use Rattle.prolly_text.specs.Escapes.{shown_plain}
use Rattle.prolly_text.specs.Names.{shown_in_name}
use Rattle.prolly_text.specs.Notations.{IsShown}
use Rattle.prolly_text.specs.Pieces.{is_plain, IsTextOf}
use Rattle.prolly_text.specs.lemmas.Characters.{high_bytes, scalars_of}
use Rattle.prolly_text.specs.lemmas.Digits.{all_so, digits_print, hex_read}
use Rattle.prolly_text.specs.lemmas.Fronts.{begins_digits, begins_named, begins_plain}
use Rattle.prolly_text.specs.lemmas.Letters.{letter_low, letter_names, letter_prints, no_backslash}
use Rattle.prolly_text.specs.lemmas.Letters.{plain_high, plain_low}
use Rattle.prolly_text.specs.lemmas.Sequences.{all_both, all_longer, all_one}
use Rattle.prolly_text.specs.lemmas.Shown.{both_show, nothing_shows, one_shows, printables_show}

-- The text stands for the bytes, and shows.
abbrev pub IsSpelled : List ℕ → List ℕ → Type 0
IsSpelled text bytes = IsTextOf text bytes × IsShown text

pub nothing_spelled : IsSpelled [] []
nothing_spelled = (refl, nothing_shows)

pub both_spelled : (a b xs ys : List ℕ) → IsSpelled a xs → IsSpelled b ys →
    IsSpelled (a ++ b) (xs ++ ys)
both_spelled a b xs ys h k = (
  all_both xs ys (a ++ b) b [] (all_longer xs a [] b h.0) k.0,
  both_show a b h.1 k.1,
)

-- ---- bytes

escape_spelled : (byte : ℕ) → IsByte byte → IsSpelled (hex_escape byte) (byte ∷ [])
escape_spelled byte h =
    let digits = encode_lower (byte ∷ []) in
    let read = hex_read (byte ∷ []) (h, tt) in (
      all_one byte (hex_escape byte) []
          (begins_digits digits byte digits [] (sym (append-nil digits)) read),
      printables_show (hex_escape byte) (
        (omega arith, omega arith),
        ((omega arith, omega arith), digits_print digits (byte ∷ []) read),
      ),
    )

pub escapes_spelled : (bytes : List ℕ) → AllByRecursion IsByte bytes →
    IsSpelled (flat_map hex_escape bytes) bytes
escapes_spelled [] h = nothing_spelled
escapes_spelled (b ∷ bytes) h = both_spelled (hex_escape b) (flat_map hex_escape bytes) (b ∷ [])
    bytes (escape_spelled b h.0) (escapes_spelled bytes h.1)

-- ---- one character

-- The number is the code of a character, and its bytes are bytes.
abbrev pub IsCharacter : ℕ → Type 0
IsCharacter character = IsScalar character × AllByRecursion IsByte (encode_utf8 character)

-- How characters are shown: so that each is spelled.
abbrev pub Spells : (ℕ → List ℕ) → Type 0
Spells shown = (character : ℕ) → IsCharacter character →
    IsSpelled (shown character) (encode_utf8 character)

plain_are : (bytes : List ℕ) → AllByRecursion (λ b. is_plain b ≡ true) bytes → IsTextOf bytes bytes
plain_are [] h = refl
plain_are (b ∷ bytes) h = (bytes, begins_plain b bytes h.0, plain_are bytes h.1)

plain_bytes : (character : ℕ) → is_plain character ≡ true →
    AllByRecursion (λ b. is_plain b ≡ true) (encode_utf8 character)
plain_bytes character plain = elim (cases_lt character 0x80) [
  | inl low ↦ subst (AllByRecursion (λ b. is_plain b ≡ true)) (sym (encode_ascii character low))
      (plain, tt)
  | inr high ↦ all_so (λ b. 0x80 ≤ b) (λ b. is_plain b ≡ true) plain_high (encode_utf8 character)
      (high_bytes character high)
]

plain_spelled : (character : ℕ) → IsCharacter character → (character == 0x5C) ≡ false →
    IsSpelled (shown_plain character) (encode_utf8 character)
plain_spelled character h other = go (is_hidden character) refl
  where
    go : (escaped : Bool) → is_hidden character ≡ escaped → IsSpelled
        (cond escaped (flat_map hex_escape (encode_utf8 character)) (encode_utf8 character))
        (encode_utf8 character)
    go true e = escapes_spelled (encode_utf8 character) h.1
    go false e = (
      plain_are (encode_utf8 character) (plain_bytes character (plain_low character e other)),
      one_shows character h.0 e,
    )

-- A backslash and a letter.
named_spelled : (character letter : ℕ) → letter_of character ≡ Some letter →
    IsSpelled (0x5C ∷ letter ∷ []) (encode_utf8 character)
named_spelled character letter e = (
  subst (IsTextOf (0x5C ∷ letter ∷ []))
      (sym (encode_ascii character (letter_low character letter e)))
      (all_one character (0x5C ∷ letter ∷ []) []
      (begins_named letter character [] (letter_names character letter e))),
  printables_show (0x5C ∷ letter ∷ [])
      ((omega arith, omega arith), (letter_prints character letter e, tt)),
)

pub text_spells : Spells shown_character
text_spells character h = go (letter_of character) refl
  where
    go : (letter : Option ℕ) → letter_of character ≡ letter →
        IsSpelled (shown_by character letter) (encode_utf8 character)
    go (Some letter) e = named_spelled character letter e
    go None e = plain_spelled character h (no_backslash character e)

pub name_spells : Spells shown_in_name
name_spells character h = go (character == 0x5C) refl
  where
    go : (backslash : Bool) → (character == 0x5C) ≡ backslash →
        IsSpelled (cond backslash (0x5C ∷ 0x5C ∷ []) (shown_plain character))
        (encode_utf8 character)
    go true e = named_spelled character 0x5C (grind (arith, nat_tests))
    go false e = plain_spelled character h e

-- ---- characters

all_spelled : (shown : ℕ → List ℕ) → Spells shown → (characters : List ℕ) →
    AllByRecursion IsScalar characters → AllByRecursion IsByte (encode_utf8_all characters) →
    IsSpelled (flat_map shown characters) (encode_utf8_all characters)
all_spelled shown spells [] h k = nothing_spelled
all_spelled shown spells (c ∷ characters) h k =
    let own = encode_utf8 c in
    let others = encode_utf8_all characters in
    both_spelled (shown c) (flat_map shown characters) own others
    (spells c (h.0, all_front IsByte own others k))
    (all_spelled shown spells characters h.1 (all_back IsByte own others k))

-- Bytes that are UTF-8, by their characters.
pub valid_spelled : (shown : ℕ → List ℕ) → Spells shown → (bytes : List ℕ) → IsUtf8 bytes →
    AllByRecursion IsByte bytes → IsSpelled (flat_map shown (chars bytes)) bytes
valid_spelled shown spells bytes valid h =
    let whole = encodes-chars bytes valid in
    subst (IsSpelled (flat_map shown (chars bytes))) whole
    (all_spelled shown spells (chars bytes) (scalars_of bytes valid)
    (subst (AllByRecursion IsByte) (sym whole) h))
