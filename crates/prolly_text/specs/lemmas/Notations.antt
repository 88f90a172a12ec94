-- What holds of both notations.
use Rattle.std.proofs.Common.{◌≡◌, inl, inr, ℕ, ◌<◌, true, false, List, [], ◌∷◌}
use Rattle.std.proofs.Common.{Ok, Some, None, refl, sym, ap, ◌∙◌, subst, arith}
use Rattle.std.specs.List.{AllByRecursion}
use Rattle.hex.specs.Hex.{decode_of, encode_lower, is_hex_digit}
use Rattle.hex.proofs.HexLemmas.{decode_of-same}
use Rattle.prolly_entry.specs.lemmas.Lists.{all_append}
use Rattle.prolly_text.specs.declared.notation.Notation.{Notation}
use Rattle.prolly_text.specs.declared.notation.Notation.TheVariants.{Hex, Text}
use Rattle.prolly_text.specs.Notations.{OneTextReading, StandsWithin, TextsStandApart}
use Rattle.prolly_text.specs.Notations.{WrittenIsRead}
use Rattle.prolly_text.specs.Notations.{WrittenShows, separator}
use Rattle.prolly_text.specs.Names.{NamesShow, shown_in_name}
use Rattle.prolly_text.specs.Pieces.{is_plain, named_byte, HasPiece, IsPiece, IsTextOf}
use Rattle.prolly_text.specs.lemmas.Sequences.{one_text}
use Rattle.prolly_text.specs.lemmas.Digits.{all_so, digits_of, digits_show, hex_read}
use Rattle.prolly_text.specs.lemmas.Spelled.{name_spells, valid_spelled}
use Rattle.prolly_text.specs.lemmas.Writing.{text_spelled}

-- What is written for bytes stands for them.
pub written_is_read : WrittenIsRead
written_is_read Hex bytes h = hex_read bytes h
written_is_read Text bytes h = (text_spelled bytes h).0

-- A text stands for one list of bytes at most.
pub one_reading : OneTextReading
one_reading Hex text a b h k = decode_of-same text a b h k
one_reading Text text a b h k = one_text text a b h k

-- What is written is UTF-8 without a hidden character.
pub written_shows : WrittenShows
written_shows Hex bytes h = digits_show (encode_lower bytes) bytes (hex_read bytes h)
written_shows Text bytes h = (text_spelled bytes h).1

-- What a line shows of a name stands for that name, and has no hidden character.
pub names_show : NamesShow
names_show name valid h = valid_spelled shown_in_name name_spells name valid h

-- ---- no newline, and no separator

digit_within : (notation : Notation) (digit : ℕ) → is_hex_digit digit ≡ true →
    StandsWithin notation digit
digit_within notation digit h = (
  λ e. unlike 0x0A refl e,
  λ e. unlike (separator notation)
      (none notation) e,
)
  where
    unlike : (other : ℕ) → is_hex_digit other ≡ false → digit ≡ other → ⊥
    unlike other k e = let apart : true ≡ false = sym h ∙ ap is_hex_digit e ∙ k in cc

    none : (notation : Notation) → is_hex_digit (separator notation) ≡ false
    none Hex = refl
    none Text = refl

digits_within : (notation : Notation) (text bytes : List ℕ) → decode_of text ≡ Ok bytes →
    AllByRecursion (StandsWithin notation) text
digits_within notation text bytes h = all_so (λ b. is_hex_digit b ≡ true) (StandsWithin notation)
    (digit_within notation) text (digits_of text bytes h)

plain_within : (byte : ℕ) → is_plain byte ≡ true → StandsWithin Text byte
plain_within byte h = (λ e. unlike 0x0A refl e, λ e. unlike 0x09 refl e)
  where
    unlike : (other : ℕ) → is_plain other ≡ false → byte ≡ other → ⊥
    unlike other k e = let apart : true ≡ false = sym h ∙ ap is_plain e ∙ k in cc

letter_within : (letter byte : ℕ) → named_byte letter ≡ Some byte → StandsWithin Text letter
letter_within letter byte h = (λ e. unlike 0x0A refl e, λ e. unlike 0x09 refl e)
  where
    unlike : (other : ℕ) → named_byte other ≡ None → letter ≡ other → ⊥
    unlike other k e = let apart : Some byte ≡ None = sym h ∙ ap named_byte e ∙ k in cc

mark_within : (mark : ℕ) → 0x0D < mark → StandsWithin Text mark
mark_within mark h = (λ e. omega arith, λ e. omega arith)

piece_within : (piece : List ℕ) (byte : ℕ) → IsPiece piece byte →
    AllByRecursion (StandsWithin Text) piece
piece_within piece byte (inl h) =
    subst (AllByRecursion (StandsWithin Text)) (sym h.0) (plain_within byte h.1, tt)
piece_within piece byte (inr (inl h)) = subst (AllByRecursion (StandsWithin Text)) (sym h.1)
    (mark_within 0x5C (omega arith), (letter_within h.0 byte h.2, tt))
piece_within piece byte (inr (inr h)) = subst (AllByRecursion (StandsWithin Text)) (sym h.1) (
  mark_within 0x5C (omega arith),
  (
    mark_within 0x78 (omega arith),
    digits_within Text h.0 (byte ∷ []) h.2,
  ),
)

text_within : (bytes text : List ℕ) → IsTextOf text bytes → AllByRecursion (StandsWithin Text) text
text_within [] text h = subst (AllByRecursion (StandsWithin Text)) (sym h) tt
text_within (b ∷ bytes) text h =
    let first : HasPiece text b h.0 = h.1 in
    subst (AllByRecursion (StandsWithin Text)) (sym first.whole)
    (all_append (StandsWithin Text) first.piece h.0 (piece_within first.piece b first.is)
    (text_within bytes h.0 h.2))

-- No text that stands for bytes has a newline, or what stands between a key and its value.
pub texts_stand_apart : TextsStandApart
texts_stand_apart Hex text bytes h = digits_within Hex text bytes h
texts_stand_apart Text text bytes h = text_within bytes text h
