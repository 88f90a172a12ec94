-- The faulty lines of a text, explained. (This project's texts.)
use Rattle.std.specs.Prelude.{◌≡◌, ◌⊎◌, ℕ, ◌+◌, ◌<◌, ◌≤◌, List, [], ◌∷◌, ◌++◌, codes, length, take}
use Rattle.std.specs.Prelude.{if◌then◌else◌, nat_lt}
use Rattle.std.specs.Fmt.{decimal}
use Rattle.prolly_entry.specs.Record.{Record}
use Rattle.prolly_text.specs.Ahead.{PassesLine}
use Rattle.prolly_text.specs.Defects.{HasDefect}
use Rattle.prolly_text.specs.Lines.{lines_of}
use Rattle.prolly_text.specs.Notations.{written}
use Rattle.prolly_text.specs.PackedLines.{StandsAt}
use Rattle.prolly_text.specs.declared.lines.defect.Defect.{Defect}
use Rattle.prolly_text.specs.declared.lines.defect.Defect.TheVariants as defects
use Rattle.prolly_text.specs.declared.lines.defect.LinePlace.{LinePlace}
use Rattle.prolly_text.specs.declared.lines.explain.LineCounts.{LineCounts}
use Rattle.prolly_text.specs.declared.lines.explain.Seen.{Seen}
use Rattle.prolly_text.specs.declared.lines.explain.Seen.TheVariants.{End, Good, Faulty}
use Rattle.prolly_text.specs.declared.lines.form.LineForm.{LineForm}
use Rattle.prolly_text.specs.declared.notation.Notation.{Notation}
use Rattle.prolly_text.specs.declared.notation.Notation.TheVariants.{Hex, Text}

-- ---- texts

-- What the separator is called.
abbrev pub separator_name : Notation → List ℕ
separator_name Hex = codes "space"
separator_name Text = codes "tab"

-- What is said of what is wrong.
unfoldable pub defect_text : Notation → Defect → List ℕ
defect_text notation defects.ByteOrderMark = codes "begins with a byte order mark"
defect_text notation (defects.CarriageReturn byte) =
    codes "carriage return at byte " ++ decimal byte
defect_text notation defects.NoSeparator = codes "no " ++ separator_name notation
defect_text notation (defects.SecondSeparator byte) =
    codes "second " ++ separator_name notation ++ codes " at byte " ++ decimal byte
defect_text notation (defects.BadEscape byte) = codes "bad escape at byte " ++ decimal byte
defect_text notation (defects.BadDigit byte) =
    codes "no hexadecimal digit at byte " ++ decimal byte
defect_text notation (defects.OddDigits byte) =
    codes "odd number of digits from byte " ++ decimal byte
defect_text notation (defects.KeyTooLong len) =
    codes "key too long: " ++ decimal len ++ codes " bytes"
defect_text notation (defects.ValueTooLong len) =
    codes "value too long: " ++ decimal len ++ codes " bytes"
defect_text notation defects.LineTooLong = codes "line too long"

-- What would be right in its place.
abbrev pub right_text : Notation → Defect → List ℕ
right_text notation defects.ByteOrderMark =
    codes "no mark; a key that begins with it is written \\xEF\\xBB\\xBF"
right_text Hex (defects.CarriageReturn byte) = codes "a newline alone ends a line"
right_text Text (defects.CarriageReturn byte) =
    codes "a newline alone ends a line; a carriage return within a key or a value is written \\r"
right_text Hex defects.NoSeparator = codes "a key, a space, and a value or a dash"
right_text Text defects.NoSeparator =
    codes "a key, a tab and a value; with --removals a key alone is its removal"
right_text Hex (defects.SecondSeparator byte) = codes "one space, between the key and the value"
right_text Text (defects.SecondSeparator byte) =
    codes "a tab within a key or a value is written \\t"
right_text notation (defects.BadEscape byte) =
    codes "\\\\ for a backslash, \\b \\t \\n \\v \\f \\r, or \\x and two hexadecimal digits"
right_text notation (defects.BadDigit byte) =
    codes "the digits 0 to 9 and a to f; a dash alone for a removal"
right_text notation (defects.OddDigits byte) = codes "two digits a byte"
right_text notation (defects.KeyTooLong len) = codes "at most 1,024 bytes"
right_text notation (defects.ValueTooLong len) = codes "at most 65,536 bytes"
right_text notation defects.LineTooLong =
    codes "a key of at most 1,024 bytes, a value of at most 65,536"

-- A line as text, or the text of its first 64 bytes and three dots.
abbrev pub shown_line : List ℕ → List ℕ
shown_line line =
    if nat_lt 64 (length line) then written Text (take 64 line) ++ codes "..."
    else written Text line

-- Where a line stands: its number from 1, and the offset of its first byte.
unfoldable pub place_text : ℕ → ℕ → List ℕ
place_text number offset =
    codes "line " ++ decimal number ++ codes " at byte " ++ decimal offset ++ codes ": "

-- What would be right, behind a line that is shown.
unfoldable pub right_line : List ℕ → List ℕ
right_line right = codes "\nright: " ++ right ++ 0x0A ∷ []

-- The lines that explain what is wrong with a line that is shown so: where it stands, and what is
-- wrong; the line; what would be right.
abbrev pub lines_with : Notation → LinePlace → Defect → List ℕ → List ℕ
lines_with notation place defect shown =
    place_text (place.number + 1) place.offset ++ defect_text notation defect ++
    codes "\nthe line: " ++ shown ++ right_line (right_text notation defect)

-- The lines that explain what is wrong with a line.
abbrev pub defect_lines : Notation → LinePlace → List ℕ → Defect → List ℕ
defect_lines notation place line defect = lines_with notation place defect (shown_line line)

-- ---- lines

-- The place of the line behind one that stands there.
abbrev pub place_behind : LinePlace → List ℕ → LinePlace
place_behind place line =
    record { number = place.number + 1; offset = place.offset + length line + 1 }

-- The place behind all of these lines, the first of which stands there.
abbrev pub place_after : LinePlace → List (List ℕ) → LinePlace
place_after place [] = place
place_after place (line ∷ lines) = place_after (place_behind place line) lines

-- The line that stands there stands for a record.
abbrev pub IsGood : LineForm → LinePlace → List ℕ → Type 0
IsGood form place line = (r : Record) × StandsAt form place.number line r

-- Of the lines, the first of which stands there, so many are at fault. The text explains what is
-- wrong with each of these, and each of the others stands for a record.
abbrev pub Explains : LineForm → LinePlace → List (List ℕ) → ℕ → List ℕ → Type 0
Explains form place [] faulty text = (faulty ≡ 0) × (text ≡ [])
Explains form place (line ∷ lines) faulty text =
    (IsGood form place line × Explains form (place_behind place line) lines faulty text)
    ⊎ ((defect : Defect) × (others : ℕ) × (more : List ℕ) × HasDefect form place line defect ×
    (faulty ≡ others + 1) × (text ≡ defect_lines form.notation place line defect ++ more) ×
    Explains form (place_behind place line) lines others more)

-- The first line of a text stands at the start.
abbrev pub start : LinePlace
start = record { number = 0; offset = 0 }

-- The last of the lines of a text, which stands behind the others, is at fault.
pub record EndsFaulty (form : LineForm) (lines : List (List ℕ)) : Type 0 where
  pub before : List (List ℕ)
  pub last : List ℕ
  pub is : lines ≡ before ++ last ∷ []
  pub defect : Defect
  pub wrong : HasDefect form (place_after start before) last defect

-- Reading has stopped at once: no line was read, or the last one is at fault.
abbrev pub StopsAtFault : LineForm → List (List ℕ) → Type 0
StopsAtFault form read = (read ≡ []) ⊎ EndsFaulty form read

-- The first lines of the text, or all, are so many, and of them so many are at fault, each of which
-- is explained. Where there are fewer of these than the limit, the lines are all; and else the last
-- one is at fault, or none was read.
pub record AreExplained (form : LineForm) (limit : ℕ) (text old new : List ℕ) (counts : LineCounts)
    : Type 0 where
  pub read : List (List ℕ)
  pub unread : List (List ℕ)
  pub whole : lines_of text ≡ read ++ unread
  pub shown : List ℕ
  pub explains : Explains form start read counts.faulty shown
  pub appended : new ≡ old ++ shown
  pub lines_are : counts.lines ≡ length read
  pub few : counts.faulty ≤ limit
  pub all : counts.faulty < limit → unread ≡ []
  pub stops : counts.faulty ≡ limit → StopsAtFault form read

-- ---- one line

-- The first line of the rest was passed. It stands for a record, and nothing is said of it.
pub record SeesGood (form : LineForm) (place : LinePlace) (rest rest' : List ℕ) (end : ℕ)
    (old new : List ℕ) : Type 0 where
  pub size : ℕ
  pub passes : PassesLine rest rest' size
  pub end_is : end ≡ place.offset + size
  pub good : IsGood form place passes.line
  pub same : new ≡ old

-- The first line of the rest was passed. It is at fault, and what is wrong with it is explained.
pub record SeesFaulty (form : LineForm) (place : LinePlace) (rest rest' : List ℕ) (end : ℕ)
    (old new : List ℕ) : Type 0 where
  pub size : ℕ
  pub passes : PassesLine rest rest' size
  pub end_is : end ≡ place.offset + size
  pub defect : Defect
  pub wrong : HasDefect form place passes.line defect
  pub appended : new ≡ old ++ defect_lines form.notation place passes.line defect

-- What was seen of the rest of a text, whose first line stands there.
abbrev pub IsSeen : LineForm → LinePlace → List ℕ → List ℕ → List ℕ → List ℕ → Seen → Type 0
IsSeen form place rest rest' old new End = (rest ≡ []) × (new ≡ old)
IsSeen form place rest rest' old new (Good end) = SeesGood form place rest rest' end old new
IsSeen form place rest rest' old new (Faulty end) = SeesFaulty form place rest rest' end old new

-- A line that was seen has at least one byte.
abbrev pub IsOnward : ℕ → Seen → Type 0
IsOnward offset End = Unit {0}
IsOnward offset (Good end) = offset < end
IsOnward offset (Faulty end) = offset < end

-- What was seen of a line that is at hand.
abbrev pub IsExplained : LineForm → LinePlace → List ℕ → ℕ → List ℕ → List ℕ → Seen → Type 0
IsExplained form place line end old new End = ⊥
IsExplained form place line end old new (Good end') =
    (end' ≡ end) × (new ≡ old) × IsGood form place line
IsExplained form place line end old new (Faulty end') = (end' ≡ end) × ((defect : Defect) ×
    HasDefect form place line defect ×
    (new ≡ old ++ defect_lines form.notation place line defect))
