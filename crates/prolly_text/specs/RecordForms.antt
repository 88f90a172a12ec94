-- How records are written: as lines, as `pack` reads them, or as a record file.
use Rattle.std.specs.Prelude.{ℕ, List, [], ◌∷◌, ◌++◌, Option, Some, None}
use Rattle.std.specs.List.{flat_map}
use Rattle.prolly_entry.specs.Record.{Record}
use Rattle.prolly_entry.specs.Spelling.{record_spelling}
use Rattle.prolly_text.specs.Notations.{separator, written}
use Rattle.prolly_text.specs.declared.notation.Notation.{Notation}
use Rattle.prolly_text.specs.declared.notation.Notation.TheVariants.{Hex, Text}
use Rattle.prolly_text.specs.declared.lines.form.RecordForm.{RecordForm}
use Rattle.prolly_text.specs.declared.lines.form.RecordForm.TheVariants.{Lines, Records}

-- What a line has behind its key for a removal: in hexadecimal a space and a dash, and in text
-- nothing.
abbrev pub removal_mark : Notation → List ℕ
removal_mark Hex = 0x20 ∷ 0x2D ∷ []
removal_mark Text = []

-- What a line has behind its key: the value behind a separator, or what marks a removal.
abbrev pub change_text : Notation → Option (List ℕ) → List ℕ
change_text notation (Some value) = separator notation ∷ written notation value
change_text notation None = removal_mark notation

-- The line of a record: its key, what it says of it, a newline.
abbrev pub record_line : Notation → Record → List ℕ
record_line notation r = written notation r.key ++ (change_text notation r.value ++ 0x0A ∷ [])

-- A record as a line, or as a record file spells it.
abbrev pub spelled : RecordForm → Record → List ℕ
spelled (Lines notation) r = record_line notation r
spelled Records r = record_spelling r

-- A record in the form that is given, and nothing where none is.
abbrev pub spelled_in : Option RecordForm → Record → List ℕ
spelled_in None r = []
spelled_in (Some form) r = spelled form r

-- Records in this form, one after another.
abbrev pub written_records : RecordForm → List Record → List ℕ
written_records form records = flat_map (spelled form) records
