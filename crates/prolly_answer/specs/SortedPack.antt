-- What `pack` answers of lines in any order.
use Rattle.std.specs.Prelude.{◌≡◌, ◌<◌, ◌≤◌, ◌^◌, ℕ, Bool, true, false, List, ◌∷◌, ◌++◌, length}
use Rattle.std.specs.Prelude.{Option, Some, None, Result, IfOk}
use Rattle.std.specs.List.{AllZip}
use Rattle.std.specs.Fmt.{decimal}
use Rattle.prolly_entry.specs.Record.{Record}
use Rattle.prolly_io.specs.Sink.{IsSettled, SinkView}
use Rattle.prolly_io.specs.Source.{SourceView}
use Rattle.prolly_sort.specs.Overlaid.{overlaid, written}
use Rattle.prolly_sort.specs.Run.{AreDoubled}
use Rattle.prolly_sort.specs.Shelf.{CameTo, counted}
use Rattle.prolly_sort.specs.declared.sorter.Sorter.{Sorter}
use Rattle.prolly_text.specs.Lines.{IsMarked, lines_of}
use Rattle.prolly_text.specs.RecordLines.{HaveComeOf, LinesInHand}
use Rattle.prolly_text.specs.PackedLines.{AreRecordsOf, IsLinesFault, StandsFor}
use Rattle.prolly_text.specs.declared.lines.buffer.TheConstants.{LINE_LIMIT}
use Rattle.prolly_text.specs.declared.lines.form.LineForm.{LineForm}
use Rattle.prolly_fault.specs.Answers.{ShowsFault, ShowsLine}
use Rattle.prolly_fault.specs.declared.answer.Answer.{Answer}
use Rattle.prolly_fault.specs.declared.fault.Fault.{Fault}
use Rattle.prolly_fault.specs.declared.fault.Fault.TheVariants.{Memory, Read, Pack}
use Rattle.prolly_fault.specs.declared.fault.Fault.TheVariants.{LineTooLong, TooManyLines, Store}
use Rattle.prolly_fault.specs.declared.fault.Fault.TheVariants.{DoubledKey}

-- The line of this number is longer than any that stands for a record, and each line before it
-- stands for one. If there are such lines, the text begins with no byte order mark. (A first line
-- that is too long is not looked at.)
pub record IsTooLongAt (form : LineForm) (text : List ℕ) (number : ℕ) : Type 0 where
  pub unmarked : 0 < number → IsMarked form.notation text → ⊥
  pub before : List (List ℕ)
  pub line : List ℕ
  pub after : List (List ℕ)
  pub whole : lines_of text ≡ before ++ line ∷ after
  pub number_is : number ≡ length before
  pub records : List Record
  pub stand : AllZip (StandsFor form) before records
  pub over : LINE_LIMIT < length line

-- The text begins with no byte order mark. The lines of these two numbers stand for records with
-- one key, and each line up to them stands for a record.
pub record AreDoubledLines (form : LineForm) (text : List ℕ) (first second : ℕ) : Type 0 where
  pub unmarked : IsMarked form.notation text → ⊥
  pub before : List (List ℕ)
  pub after : List (List ℕ)
  pub whole : lines_of text ≡ before ++ after
  pub records : List Record
  pub stand : AllZip (StandsFor form) before records
  pub doubled : AreDoubled records first second

-- The lines of a text are not put in order: a read failed; or none did, and the first line that
-- stands for no record is told, or there are more lines than can be numbered and no byte order
-- mark, or keys are to be unique and two lines have one key, or a run can't wait or be merged, or
-- memory was refused. Which lines have one key is right if the store keeps what is written.
abbrev pub IsSortingFault : LineForm → Bool → List ℕ → Type 0 → Bool → Fault → Type 0
IsSortingFault form unique text has_failed keeps Read = has_failed
IsSortingFault form unique text has_failed keeps Memory = ¬ has_failed
IsSortingFault form unique text has_failed keeps (Pack fault) =
    ¬ has_failed × IsLinesFault form text fault
IsSortingFault form unique text has_failed keeps (LineTooLong line) =
    ¬ has_failed × IsTooLongAt form text line
IsSortingFault form unique text has_failed keeps TooManyLines =
    ¬ has_failed × (2 ^ 64 ≤ length (lines_of text)) × (IsMarked form.notation text → ⊥)
IsSortingFault form unique text has_failed keeps (DoubledKey first second) =
    ¬ has_failed × (unique ≡ true) × (keeps ≡ true → AreDoubledLines form text first second)
IsSortingFault form unique text has_failed keeps (Store fault) = ¬ has_failed
IsSortingFault form unique text has_failed keeps _ = ⊥

-- Where the answer is yes, this holds.
abbrev pub OnTrue : {E : Type 0} → Result Bool E → Type 0 → Type 0
OnTrue result P = IfOk result (λ more. more ≡ true → P)

-- Where the answer is no, this holds.
abbrev pub OnFalse : {E : Type 0} → Result Bool E → Type 0 → Type 0
OnFalse result P = IfOk result (λ more. more ≡ false → P)

-- The records of the first lines of a text came to a sorter, if the store keeps what is written.
-- Behind these lines is the rest: the bytes in hand, and what the source has left.
pub record AreSortedSoFar {W B : Type 0} (written_to : W → SinkView) (read_back : B → SourceView)
    (text : List ℕ) (keeps : Bool) (lines : LinesInHand) (source : SourceView)
    (sorter : Sorter W B) : Type 0 where
  pub honest : source.is_honest ≡ true
  pub records : List Record
  pub come : HaveComeOf lines.form text (lines.unparsed ++ source.left) records lines.number
  pub sorted : keeps ≡ true → CameTo written_to read_back sorter records

module _ {W : Type 0} (seen : W → SinkView) where
  -- The file, which was flushed, is the record file of what these records come to, one after
  -- another; so many records these are. Where keys are to be unique, no two of them have one key.
  pub record IsSorted (unique : Bool) (records : List Record) (file : W) (len : ℕ) : Type 0 where
    pub keeping : (seen file).is_keeping ≡ true
    pub taken : (seen file).taken ≡ written (overlaid records)
    pub settled : IsSettled (seen file)
    pub len_is : len ≡ counted (overlaid records)
    pub apart : unique ≡ true → (first second : ℕ) → AreDoubled records first second → ⊥

  -- The text was read whole, and each of its lines stands for a record. If the store keeps what is
  -- written, the file is that of these records in order.
  pub record SortsTo (form : LineForm) (unique : Bool) (text : List ℕ) (has_failed : Type 0)
      (keeps : Bool) (file : W) (len : ℕ) : Type 0 where
    pub unfailed : ¬ has_failed
    pub records : List Record
    pub are : AreRecordsOf form text records
    pub sorted : keeps ≡ true → IsSorted unique records file len

  -- The number of records is shown, and the file is theirs; or the line of the fault is, and there
  -- is no file.
  abbrev pub ShowsSorted :
      LineForm → Bool → List ℕ → Type 0 → Bool → Answer → Option W → Type 0
  ShowsSorted form unique text has_failed keeps answer (Some file) = (len : ℕ) ×
      SortsTo form unique text has_failed keeps file len × ShowsLine answer (decimal len)
  ShowsSorted form unique text has_failed keeps answer None = (fault : Fault) ×
      IsSortingFault form unique text has_failed keeps fault × ShowsFault answer fault
