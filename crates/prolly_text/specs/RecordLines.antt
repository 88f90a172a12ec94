-- Records out of the lines of a text, one after another.
use Rattle.std.specs.Prelude.{◌≡◌, ◌≢◌, ℕ, ◌+◌, ◌-◌, ◌^◌, ◌<◌, ◌≤◌, List, [], ◌∷◌, ◌++◌, length}
use Rattle.std.specs.Prelude.{Option, Some, None, Result, Ok, Err}
use Rattle.std.specs.List.{AllZip}
use Rattle.prolly_entry.specs.Record.{Record}
use Rattle.prolly_text.specs.Ahead.{BeginsWithLongLine}
use Rattle.prolly_text.specs.Lines.{IsMarked, lines_of}
use Rattle.prolly_text.specs.PackedLines.{IsLineFault, StandsAt, StandsFor}
use Rattle.prolly_text.specs.declared.lines.buffer.TheConstants.{LINE_LIMIT}
use Rattle.prolly_text.specs.declared.lines.form.LineForm.{LineForm}
use Rattle.prolly_text.specs.declared.lines.pack.LinesFault.{LinesFault}
use Rattle.prolly_text.specs.declared.lines.reader.ReadLinesFault.{ReadLinesFault}
use Rattle.prolly_text.specs.declared.lines.reader.ReadLinesFault.TheVariants as faults

-- How the lines are read, the bytes that were read and belong to no line that was given, and how
-- many lines were given.
pub record LinesInHand : Type 0 where
  pub form : LineForm
  pub unparsed : List ℕ
  pub number : ℕ

-- The number of lines that were given after this answer.
abbrev pub number_behind : ℕ → Result (Option Record) ReadLinesFault → ℕ
number_behind number (Ok None) = number
number_behind number (Ok (Some r)) = number + 1
number_behind number (Err fault) = number

-- The record is that of the first line of the rest of a text, which has this number. What is left
-- then is what is behind that line.
pub record GivesRecord (form : LineForm) (number : ℕ) (rest rest' : List ℕ) (r : Record) : Type 0
  where
    pub line : List ℕ
    pub whole : lines_of rest ≡ line ∷ lines_of rest'
    pub stands : StandsAt form number line r

-- The first line of the rest, which is not too long, is at fault.
pub record RefusesLine (form : LineForm) (number : ℕ) (rest : List ℕ) (fault : LinesFault) : Type 0
  where
    pub line : List ℕ
    pub after : List (List ℕ)
    pub whole : lines_of rest ≡ line ∷ after
    pub short : length line ≤ LINE_LIMIT
    pub wrong : IsLineFault form line number fault

-- Why no record is given of the rest of a text, whose first line has this number. A failed read
-- may come at any line.
abbrev pub IsReadLinesFault : LineForm → ℕ → List ℕ → ReadLinesFault → Type 0
IsReadLinesFault form number rest faults.Read = Unit {0}
IsReadLinesFault form number rest (faults.Line fault) = RefusesLine form number rest fault
IsReadLinesFault form number rest (faults.LineTooLong line) =
    (line ≡ number) × BeginsWithLongLine rest
IsReadLinesFault form number rest faults.TooManyLines = (number ≡ 2 ^ 64 - 1) × (rest ≢ [])

-- What a reader answers, from the rest of a text and what is left of it then: none where nothing is
-- left, the record of the first line, or why there is none; then the rest is as it was.
abbrev pub IsNextOf : LineForm → ℕ → List ℕ → List ℕ → Result (Option Record) ReadLinesFault →
    Type 0
IsNextOf form number rest rest' (Ok None) = (rest ≡ []) × (rest' ≡ [])
IsNextOf form number rest rest' (Ok (Some r)) = GivesRecord form number rest rest' r
IsNextOf form number rest rest' (Err fault) =
    IsReadLinesFault form number rest fault × (rest' ≡ rest)

-- These are the records of the first lines of a text, which are so many; behind them is the rest.
pub record HaveComeOf (form : LineForm) (text rest : List ℕ) (records : List Record) (number : ℕ)
    : Type 0 where
  pub done : List (List ℕ)
  pub whole : lines_of text ≡ done ++ lines_of rest
  pub stand : AllZip (StandsFor form) done records
  pub number_is : number ≡ length done
  pub unmarked : 0 < number → IsMarked form.notation text → ⊥
