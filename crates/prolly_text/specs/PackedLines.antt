-- What packing a text comes to: the record file of its lines, or the first line at fault.
use Rattle.std.specs.Prelude.{◌≡◌, ◌↔◌, ◌⊎◌, ℕ, ◌<◌, ◌≤◌, Bool, true, List, []}
use Rattle.std.specs.Prelude.{◌∷◌, ◌++◌, length, Option, Some, None, IfSome, IfNone, option_map}
use Rattle.std.specs.List.{flat_map, AllByRecursion, AllZip}
use Rattle.prolly_entry.specs.Byte.{IsByte}
use Rattle.prolly_entry.specs.declared.pair.EntryFault.{EntryFault}
use Rattle.prolly_entry.specs.declared.pair.EntryFault.TheVariants as entries
use Rattle.prolly_entry.specs.Record.{Record, IsRecord}
use Rattle.prolly_entry.specs.Spelling.{record_spelling}
use Rattle.prolly_text.specs.declared.lines.buffer.TheConstants.{LINE_LIMIT}
use Rattle.prolly_text.specs.declared.lines.pack.LinesFault.{LinesFault}
use Rattle.prolly_text.specs.declared.lines.pack.LinesFault.TheVariants as lines
use Rattle.prolly_text.specs.declared.lines.pack.PackFault.{PackFault}
use Rattle.prolly_text.specs.declared.lines.pack.PackFault.TheVariants.{Memory, BadLine}
use Rattle.prolly_text.specs.declared.lines.pack.PackFault.TheVariants.{KeyTooLong, ValueTooLong}
use Rattle.prolly_text.specs.Notations.{IsWritten}
use Rattle.prolly_text.specs.declared.notation.Notation.{Notation}
use Rattle.prolly_text.specs.declared.notation.Notation.TheVariants.{Hex, Text}
use Rattle.prolly_text.specs.declared.notation.TextFault.{TextFault}
use Rattle.prolly_text.specs.declared.notation.TextFault.TheVariants as texts
use Rattle.prolly_text.specs.declared.lines.form.LineForm.{LineForm}
use Rattle.prolly_text.specs.declared.lines.line.Change.{Change}
use Rattle.prolly_text.specs.declared.lines.line.LineFlaw.{LineFlaw}
use Rattle.prolly_text.specs.declared.lines.line.LineFlaw.TheVariants as flaws
use Rattle.prolly_text.specs.declared.lines.form.RecordForm.TheVariants.{Lines, Records}
use Rattle.prolly_text.specs.Lines.{lines_of, IsLineOf, IsBadLine, IsLongKeyLine, IsLongValueLine}
use Rattle.prolly_text.specs.Lines.{IsMarked}
use Rattle.prolly_text.specs.RecordForms.{written_records}

-- The line stands for the lawful record.
abbrev pub StandsFor : LineForm → List ℕ → Record → Type 0
StandsFor form line r = IsLineOf form line r.key r.value × IsRecord r

-- The line of this number stands for the lawful record. The first one begins with no byte order
-- mark; a later one that begins so has a key that does.
pub record StandsAt (form : LineForm) (number : ℕ) (line : List ℕ) (r : Record) : Type 0 where
  pub stands : StandsFor form line r
  pub unmarked : number ≡ 0 → IsMarked form.notation line → ⊥

-- The text begins with no byte order mark, and these are the records for which its lines stand, in
-- their order.
pub record AreRecordsOf (form : LineForm) (text : List ℕ) (records : List Record) : Type 0 where
  pub unmarked : IsMarked form.notation text → ⊥
  pub stand : AllZip (StandsFor form) (lines_of text) records

-- Each line of the text stands for a record, and so many spellings are appended, in the order of
-- the lines.
pub record Packs (form : LineForm) (text old new : List ℕ) (count : ℕ) : Type 0 where
  pub records : List Record
  pub are : AreRecordsOf form text records
  pub appended : new ≡ old ++ flat_map record_spelling records
  pub count_is : count ≡ length records

-- The line stands for no lawful record, and this is what is wrong with it; want of memory may come
-- at any line.
abbrev pub IsWrongLine : LineForm → List ℕ → LineFlaw → Type 0
IsWrongLine form line flaws.Memory = Unit {0}
IsWrongLine form line flaws.Bad = IsBadLine form line
IsWrongLine form line flaws.KeyTooLong = IsLongKeyLine form line
IsWrongLine form line flaws.ValueTooLong = IsLongValueLine form line

-- The text is not written in this notation.
abbrev pub IsNotWritten : Notation → List ℕ → LineFlaw → Type 0
IsNotWritten notation text flaws.Memory = Unit {0}
IsNotWritten notation text flaws.Bad = (bytes : List ℕ) → IsWritten notation text bytes → ⊥
IsNotWritten notation text flaws.KeyTooLong = ⊥
IsNotWritten notation text flaws.ValueTooLong = ⊥

-- What is behind the separator marks a removal: in hexadecimal a dash does, and in text nothing.
abbrev pub MarksRemoval : Notation → List ℕ → Type 0
MarksRemoval Hex change = change ≡ 0x2D ∷ []
MarksRemoval Text change = ⊥

-- The record puts a value at a key, or removes the key; and it is lawful.
abbrev pub IsChangeOf : List ℕ → Option (List ℕ) → Record → Type 0
IsChangeOf key change r = (r.key ≡ key) × (r.value ≡ change) × IsRecord r

-- The key is too long, and that is the flaw.
abbrev pub IsLongKey : List ℕ → LineFlaw → Type 0
IsLongKey key flaw = (flaw ≡ flaws.KeyTooLong) × (1024 < length key)

-- The key is too long, or it is not and the value is; and that is the flaw.
abbrev pub IsLongPair : List ℕ → List ℕ → LineFlaw → Type 0
IsLongPair key value flaw = IsLongKey key flaw
    ⊎ ((flaw ≡ flaws.ValueTooLong) × (length key ≤ 1024) × (65536 < length value))

-- Law: no line that stands for a record is longer than the limit.
abbrev pub LinesAreShort : Type 0
LinesAreShort = (form : LineForm) (line : List ℕ) (r : Record) → StandsFor form line r →
    length line ≤ LINE_LIMIT

-- The key of a change is too long, or it is not and the value that is put is; and that is the flaw.
abbrev pub IsLongChange : List ℕ → Option (List ℕ) → LineFlaw → Type 0
IsLongChange key None flaw = IsLongKey key flaw
IsLongChange key (Some value) flaw = IsLongPair key value flaw

-- The value that a change puts, if it puts one.
abbrev pub value_in : Change → Option (List ℕ)
value_in change = option_map (λ value. value.items) change.value

-- The line is written for this change.
abbrev pub IsWrittenFor : LineForm → List ℕ → Change → Type 0
IsWrittenFor form line change = IsLineOf form line change.key.items (value_in change)

-- The line stands for nothing, or memory is wanted, which may be at any line.
abbrev pub IsUnreadLine : LineForm → List ℕ → TextFault → Type 0
IsUnreadLine form line texts.Memory = Unit {0}
IsUnreadLine form line texts.Bad = IsBadLine form line

-- What is too long of a pair is too long of its line.
abbrev pub flaw_of : EntryFault → LineFlaw
flaw_of entries.KeyTooLong = flaws.KeyTooLong
flaw_of entries.ValueTooLong = flaws.ValueTooLong

-- The text begins with no byte order mark. The line of this number is the first that stands for no
-- lawful record, and this is what is wrong with it.
pub record IsFirstWrong (form : LineForm) (text : List ℕ) (number : ℕ) (flaw : LineFlaw)
    : Type 0 where
  pub unmarked : IsMarked form.notation text → ⊥
  pub before : List (List ℕ)
  pub line : List ℕ
  pub after : List (List ℕ)
  pub whole : lines_of text ≡ before ++ line ∷ after
  pub number_is : number ≡ length before
  pub records : List Record
  pub stand : AllZip (StandsFor form) before records
  pub wrong : IsWrongLine form line flaw

-- The fault names the first line that stands for no lawful record.
abbrev pub IsPackFault : LineForm → List ℕ → PackFault → Type 0
IsPackFault form text Memory = Unit {0}
IsPackFault form text (BadLine line) =
    (form.notation ≡ Hex) × IsFirstWrong form text line flaws.Bad
IsPackFault form text (KeyTooLong line) = IsFirstWrong form text line flaws.KeyTooLong
IsPackFault form text (ValueTooLong line) = IsFirstWrong form text line flaws.ValueTooLong

-- The fault names the first line, in any form, that stands for no lawful record; or the byte order
-- mark with which the text begins.
abbrev pub IsLinesFault : LineForm → List ℕ → LinesFault → Type 0
IsLinesFault form text lines.ByteOrderMark = IsMarked form.notation text
IsLinesFault form text (lines.Pack fault) = IsPackFault form text fault
IsLinesFault form text (lines.BadText line) =
    (form.notation ≡ Text) × IsFirstWrong form text line flaws.Bad

-- A bad line, in this notation.
abbrev pub bad_line : Notation → ℕ → LinesFault
bad_line Hex line = lines.Pack (BadLine line)
bad_line Text line = lines.BadText line

-- A flaw at a line.
abbrev pub fault_at : Notation → LineFlaw → ℕ → LinesFault
fault_at notation flaws.Memory line = lines.Pack Memory
fault_at notation flaws.Bad line = bad_line notation line
fault_at notation flaws.KeyTooLong line = lines.Pack (KeyTooLong line)
fault_at notation flaws.ValueTooLong line = lines.Pack (ValueTooLong line)

-- The line of this number stands for a record, and its spelling is appended.
pub record PacksLine (form : LineForm) (line : List ℕ) (number : ℕ) (old new : List ℕ) : Type 0
  where
    pub one : Record
    pub stands : StandsAt form number line one
    pub appended : new ≡ old ++ record_spelling one

-- What is wrong with the line, with its number; and it is no first line that begins with a byte
-- order mark.
pub record IsFlawAt (form : LineForm) (line : List ℕ) (number : ℕ) (fault : LinesFault) : Type 0
  where
    pub flaw : LineFlaw
    pub wrong : IsWrongLine form line flaw
    pub is : fault ≡ fault_at form.notation flaw number
    pub unmarked : number ≡ 0 → IsMarked form.notation line → ⊥

-- What is wrong with the line of this number.
abbrev pub IsLineFault : LineForm → List ℕ → ℕ → LinesFault → Type 0
IsLineFault form line number lines.ByteOrderMark = (number ≡ 0) × IsMarked form.notation line
IsLineFault form line number (lines.Pack fault) = IsFlawAt form line number (lines.Pack fault)
IsLineFault form line number (lines.BadText place) =
    IsFlawAt form line number (lines.BadText place)

-- ---- lines that are written

-- The key of the record is bytes, and so is a value that it puts.
pub record IsOfBytes (r : Record) : Type 0 where
  pub key : AllByRecursion IsByte r.key
  pub value : IfSome r.value (AllByRecursion IsByte)

-- Removals are read: in text, where they are looked for.
abbrev pub ReadsRemovals : Notation → Bool → Type 0
ReadsRemovals Hex removals = Unit {0}
ReadsRemovals Text removals = removals ≡ true

-- The record has a line in this form: it is a put, or removals are read.
abbrev pub HasLine : LineForm → Record → Type 0
HasLine form r = IfNone r.value (ReadsRemovals form.notation form.removals)

-- Law: packing the lines of lawful records gives their record file, and nothing else.
abbrev pub LinesArePacked : Type 0
LinesArePacked = (form : LineForm) (records : List Record) (old new : List ℕ) (count : ℕ) →
    AllByRecursion IsRecord records → AllByRecursion IsOfBytes records →
    AllByRecursion (HasLine form) records →
    Packs form (written_records (Lines form.notation) records) old new count ↔
    ((new ≡ old ++ written_records Records records) × (count ≡ length records))
