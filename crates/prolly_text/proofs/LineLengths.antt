-- No line that stands for a record is longer than the limit.
use Rattle.std.proofs.Common.{inl, inr, ℕ, ◌*◌, ◌≤◌, Bool, true, false, List, []}
use Rattle.std.proofs.Common.{◌∷◌, length, Option, Some, None, ap, arith, length-append}
use Rattle.hex.proofs.HexLemmas.{decode_of-ok}
use Rattle.prolly_entry.specs.Record.{IsChange}
use Rattle.prolly_text.specs.Lines.{IsLineOf, IsPairLine, IsRemovalLine}
use Rattle.prolly_text.specs.Notations.{IsWritten, separator}
use Rattle.prolly_text.specs.PackedLines.{LinesAreShort}
use Rattle.prolly_text.specs.Pieces.{BeginsWithAll, IsPiece}
use Rattle.prolly_text.specs.declared.lines.buffer.TheConstants.{LINE_LIMIT}
use Rattle.prolly_text.specs.declared.lines.form.LineForm.{LineForm}
use Rattle.prolly_text.specs.declared.notation.Notation.{Notation}
use Rattle.prolly_text.specs.declared.notation.Notation.TheVariants.{Hex, Text}

piece_short : (piece : List ℕ) (byte : ℕ) → IsPiece piece byte → length piece ≤ 4
piece_short piece byte (inl h) = omega (arith, ap length h.0)
piece_short piece byte (inr (inl h)) = omega (arith, ap length h.1)
piece_short piece byte (inr (inr h)) =
    let size = (decode_of-ok h.0 (byte ∷ []) h.2).2 in omega (arith, ap length h.1, size)

pieces_short : (text bytes : List ℕ) → BeginsWithAll text bytes [] →
    length text ≤ 4 * length bytes
pieces_short text [] h = omega (arith, ap length h)
pieces_short text (byte ∷ bytes) h =
    let more = pieces_short h.0 bytes h.2 in
    let one = piece_short h.1.piece byte h.1.is in
    omega (arith, ap length h.1.whole, length-append h.1.piece h.0)

-- A byte takes four characters at most.
text_short : (notation : Notation) (text bytes : List ℕ) → IsWritten notation text bytes →
    length text ≤ 4 * length bytes
text_short Hex text bytes h = omega (arith, (decode_of-ok text bytes h).2)
text_short Text text bytes h = pieces_short text bytes h

pair_short : (notation : Notation) (line key value : List ℕ) → IsPairLine notation line key value →
    length key ≤ 1024 → length value ≤ 65536 → length line ≤ LINE_LIMIT
pair_short notation line key value h k l =
    let first = text_short notation h.key_text key h.key_is in
    let second = text_short notation h.value_text value h.value_is in
    omega (
      arith,
      ap length h.is,
      length-append h.key_text (separator notation ∷ h.value_text),
    )

removal_short : (notation : Notation) (removals : Bool) (line key : List ℕ) →
    IsRemovalLine notation removals line key → length key ≤ 1024 → length line ≤ LINE_LIMIT
removal_short Hex removals line key h k =
    let first = text_short Hex h.key_text key h.key_is in
    omega (arith, ap length h.is, length-append h.key_text (0x20 ∷ 0x2D ∷ []))
removal_short Text true line key h k = let first = text_short Text line key h in omega arith
removal_short Text false line key h k = absurd h

line_short : (form : LineForm) (line key : List ℕ) (change : Option (List ℕ)) →
    IsLineOf form line key change → length key ≤ 1024 → IsChange change →
    length line ≤ LINE_LIMIT
line_short form line key None h k l =
    removal_short form.notation form.removals line key h k
line_short form line key (Some value) h k l = pair_short form.notation line key value h k l

pub lines_are_short : LinesAreShort
lines_are_short form line r h = line_short form line r.key r.value h.0 h.1.key h.1.value
