-- What is wrong with a line that stands for no record.
use Rattle.std.specs.Prelude.{◌≡◌, ◌≢◌, ◌⊎◌, ℕ, ◌+◌, ◌%◌, ◌<◌, ◌≤◌, true, false, List, [], ◌∷◌, ◌++◌}
use Rattle.std.specs.Prelude.{length, Option, Some, None}
use Rattle.std.specs.List.{AllByRecursion}
use Rattle.hex.specs.Hex.{is_hex_digit}
use Rattle.prolly_entry.specs.Record.{Record, IsChange}
use Rattle.prolly_text.specs.Lines.{CutsAt, IsBadLine, IsLineOf, IsMarked, reads_bare_keys}
use Rattle.prolly_text.specs.Notations.{IsWritten, separator}
use Rattle.prolly_text.specs.PackedLines.{MarksRemoval, StandsAt, value_in}
use Rattle.prolly_text.specs.Pieces.{BeginsWithAll, BeginsWithNone}
use Rattle.prolly_text.specs.declared.lines.buffer.TheConstants.{LINE_LIMIT}
use Rattle.prolly_text.specs.declared.lines.defect.Defect.{Defect}
use Rattle.prolly_text.specs.declared.lines.defect.Defect.TheVariants as defects
use Rattle.prolly_text.specs.declared.lines.defect.LinePlace.{LinePlace}
use Rattle.prolly_text.specs.declared.lines.form.LineForm.{LineForm}
use Rattle.prolly_text.specs.declared.lines.line.Change.{Change}
use Rattle.prolly_text.specs.declared.notation.Notation.{Notation}
use Rattle.prolly_text.specs.declared.notation.Notation.TheVariants.{Hex, Text}

-- ---- the text of a key or a value

-- The text stands for bytes.
abbrev pub IsRead : Notation → List ℕ → Type 0
IsRead notation text = (bytes : List ℕ) × IsWritten notation text bytes

-- Of these bytes, which begin at an offset, the first one that is wrong stands at another one.
pub record HasFirst (IsWrong : ℕ → Type 0) (start : ℕ) (bytes : List ℕ) (offset : ℕ) : Type 0 where
  pub front : List ℕ
  pub byte : ℕ
  pub back : List ℕ
  pub is : bytes ≡ front ++ byte ∷ back
  pub wrong : IsWrong byte
  pub none_before : AllByRecursion (λ b. IsWrong b → ⊥) front
  pub offset_is : offset ≡ start + length front

-- The text, which begins at an offset, is characters and escapes up to another one. There begins
-- neither.
pub record BreaksOff (text : List ℕ) (start offset : ℕ) : Type 0 where
  pub bytes : List ℕ
  pub rest : List ℕ
  pub pieces : BeginsWithAll text bytes rest
  pub none : BeginsWithNone rest
  pub some : rest ≢ []
  pub offset_is : offset + length rest ≡ start + length text

-- What is wrong with a text that stands for no bytes, which begins at an offset.
abbrev pub IsPartDefect : Notation → List ℕ → ℕ → Defect → Type 0
IsPartDefect notation text start (defects.BadEscape offset) =
    (notation ≡ Text) × BreaksOff text start offset
IsPartDefect notation text start (defects.BadDigit offset) = (notation ≡ Hex) ×
    HasFirst (λ b. is_hex_digit b ≡ false) start text offset
IsPartDefect notation text start (defects.OddDigits offset) = (notation ≡ Hex) ×
    (offset ≡ start) × (length text % 2 ≡ 1) × AllByRecursion (λ b. is_hex_digit b ≡ true) text
IsPartDefect notation text start _ = ⊥

-- Without a separator the line is read as a key, and the text is all of it.
abbrev pub IsBareKey : LineForm → List ℕ → List ℕ → Type 0
IsBareKey form line text = (reads_bare_keys form.notation form.removals ≡ true) ×
    (text ≡ line) × AllByRecursion (λ b. b ≢ separator form.notation) line

-- The text is that of the line's key; or, after a key that can be read, what is behind the first
-- separator and does not mark a removal. This many bytes of the line are before it.
abbrev pub IsPart : LineForm → List ℕ → List ℕ → ℕ → Type 0
IsPart form line text before =
    (IsBareKey form line text × (before ≡ 0))
    ⊎ ((change : List ℕ) × CutsAt (separator form.notation) line text change × (before ≡ 0))
    ⊎ ((key : List ℕ) × CutsAt (separator form.notation) line key text ×
    IsRead form.notation key × (MarksRemoval form.notation text → ⊥) ×
    (before ≡ length key + 1))

-- This is wrong with the text of the line's key or, where that can be read, with the value's behind
-- the separator.
pub record HasBadPart (form : LineForm) (start : ℕ) (line : List ℕ) (defect : Defect) : Type 0
  where
    pub text : List ℕ
    pub before : ℕ
    pub part : IsPart form line text before
    pub wrong : IsPartDefect form.notation text (start + before) defect

-- ---- a line

-- The line, which begins at an offset, has two separators or more, the second one at another offset.
pub record HasTwo (byte start : ℕ) (line : List ℕ) (offset : ℕ) : Type 0 where
  pub front : List ℕ
  pub mid : List ℕ
  pub back : List ℕ
  pub is : line ≡ front ++ byte ∷ mid ++ byte ∷ back
  pub none_before : AllByRecursion (λ b. b ≢ byte) front
  pub none_between : AllByRecursion (λ b. b ≢ byte) mid
  pub offset_is : offset ≡ start + length front + 1 + length mid

-- The line stands for a key of so many bytes, which are too many.
pub record HasLongKey (form : LineForm) (line : List ℕ) (len : ℕ) : Type 0 where
  pub key : List ℕ
  pub change : Option (List ℕ)
  pub is : IsLineOf form line key change
  pub over : 1024 < length key
  pub len_is : len ≡ length key

-- The line stands for a key that is not too long, and a value of so many bytes, which are too many.
pub record HasLongValue (form : LineForm) (line : List ℕ) (len : ℕ) : Type 0 where
  pub key : List ℕ
  pub value : List ℕ
  pub is : IsLineOf form line key (Some value)
  pub within : length key ≤ 1024
  pub over : 65536 < length value
  pub len_is : len ≡ length value

-- What is wrong with the line that stands at this place.
abbrev pub HasDefect : LineForm → LinePlace → List ℕ → Defect → Type 0
HasDefect form place line defects.ByteOrderMark =
    (place.number ≡ 0) × IsMarked form.notation line
HasDefect form place line (defects.CarriageReturn offset) =
    IsBadLine form line × HasFirst (λ b. b ≡ 0x0D) place.offset line offset
HasDefect form place line defects.NoSeparator =
    IsBadLine form line × (reads_bare_keys form.notation form.removals ≡ false) ×
    AllByRecursion (λ b. b ≢ separator form.notation) line
HasDefect form place line (defects.SecondSeparator offset) =
    IsBadLine form line × HasTwo (separator form.notation) place.offset line offset
HasDefect form place line (defects.BadEscape offset) =
    IsBadLine form line × HasBadPart form place.offset line (defects.BadEscape offset)
HasDefect form place line (defects.BadDigit offset) =
    IsBadLine form line × HasBadPart form place.offset line (defects.BadDigit offset)
HasDefect form place line (defects.OddDigits offset) =
    IsBadLine form line × HasBadPart form place.offset line (defects.OddDigits offset)
HasDefect form place line (defects.KeyTooLong len) = HasLongKey form line len
HasDefect form place line (defects.ValueTooLong len) = HasLongValue form line len
HasDefect form place line defects.LineTooLong = LINE_LIMIT < length line

-- The line that stands at this place stands for a record, or this is wrong with it.
abbrev pub IsVerdictOn : LineForm → LinePlace → List ℕ → Option Defect → Type 0
IsVerdictOn form place line None = (r : Record) × StandsAt form place.number line r
IsVerdictOn form place line (Some defect) = HasDefect form place line defect

-- What is too long of a change; where nothing is, it is that of a lawful record.
abbrev pub IsLengthVerdict : Change → Option Defect → Type 0
IsLengthVerdict change None = (length change.key.items ≤ 1024) × IsChange (value_in change)
IsLengthVerdict change (Some (defects.KeyTooLong len)) =
    (1024 < length change.key.items) × (len ≡ length change.key.items)
IsLengthVerdict change (Some (defects.ValueTooLong len)) = (length change.key.items ≤ 1024) ×
    ((value : List ℕ) × (value_in change ≡ Some value) × (65536 < length value) ×
    (len ≡ length value))
IsLengthVerdict change (Some _) = ⊥
