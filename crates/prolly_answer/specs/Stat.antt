-- What the command `stat` answers.
use Rattle.std.specs.Prelude.{◌≡◌, ◌≢◌, ℕ, ◌⊎◌, Bool, true, false, List, [], take, length, codes}
use Rattle.std.specs.Prelude.{Option, Some, None, Result, IfOk}
use Rattle.std.specs.Str.{bytes_eq}
use Rattle.std.specs.declared.alloc.AllocError.{AllocError}
use Rattle.prolly_entry.specs.Cut.{sha512_cut}
use Rattle.prolly_entry.specs.Reference.{reference_text}
use Rattle.prolly_tree.specs.File.{root_reference}
use Rattle.prolly_io.specs.Source.{HandedOutFewer, SourceView}
use Rattle.prolly_look_up.specs.Content.{chunks_of, Content}
use Rattle.prolly_check.specs.Numbers.{AreLevels}
use Rattle.prolly_chunk.specs.Missing.{chunks_size}
use Rattle.prolly_load.specs.Fault.{fault_of}
use Rattle.prolly_load.specs.declared.tally.FlawedRecord.{FlawedRecord}
use Rattle.prolly_load.specs.declared.tally.Survey.{Survey}
use Rattle.prolly_text.specs.Json.{json_of, records_json_of}
use Rattle.prolly_text.specs.Records.{records_of}
use Rattle.prolly_text.specs.Table.{table_of}
use Rattle.prolly_text.specs.declared.numbers.records.RecordNumbers.{RecordNumbers}
use Rattle.prolly_text.specs.declared.numbers.table.TreeNumbers.{TreeNumbers}
use Rattle.prolly_fault.specs.Answers.{Shows, ShowsFault}
use Rattle.prolly_answer.specs.LookUps.{IsLookUp, ShowsFailedRead}
use Rattle.prolly_answer.specs.Surveys.{AreOfSurvey, IsSurveyAnswer, IsReadFailure}
use Rattle.prolly_fault.specs.declared.answer.Answer.{Answer}
use Rattle.prolly_fault.specs.declared.fault.Fault.TheVariants.{Read, Run}
use Rattle.prolly_answer.specs.declared.answers.stat.StatForm.{StatForm}
use Rattle.prolly_answer.specs.declared.answers.stat.StatForm.TheVariants.{Lines, Json}

-- ---- a chunk file

-- The numbers are those of the file of this content.
pub record AreOfTree (content : Content) (numbers : TreeNumbers) : Type 0 where
  pub root_is : numbers.root.now ≡
      reference_text (root_reference (sha512_cut content.bits) content.version content.pairs)
  pub version_is : numbers.version ≡ content.version
  pub bits_are : numbers.bits ≡ content.bits
  pub pairs_are : numbers.pairs ≡ length content.pairs
  pub chunks_are : numbers.chunks ≡ length (chunks_of content)
  pub bytes_are : numbers.bytes ≡ chunks_size (chunks_of content)
  pub levels_are : AreLevels (chunks_of content) numbers.levels.now

-- Their text.
abbrev pub tree_text : StatForm → TreeNumbers → List ℕ
tree_text (Lines notation) numbers = table_of numbers
tree_text Json numbers = json_of numbers

-- The answer shows the numbers of a tree.
pub record ShowsTree (form : StatForm) (answer : Answer) (content : Content) : Type 0 where
  pub numbers : TreeNumbers
  pub are : AreOfTree content numbers
  pub shows : Shows answer 0 (tree_text form numbers) []

-- ---- a record file

-- The text of the numbers.
abbrev pub records_text : StatForm → RecordNumbers → List ℕ
records_text (Lines notation) numbers = records_of notation numbers
records_text Json numbers = records_json_of numbers

-- The answer shows the numbers of a record file.
pub record ShowsSurvey (form : StatForm) (answer : Answer) (survey : Survey) : Type 0 where
  pub numbers : RecordNumbers
  pub are : AreOfSurvey survey numbers
  pub shows : Shows answer 0 (records_text form numbers) []

-- The numbers of a file that is good, and else the line of its flaw, as that of file 0.
abbrev pub ShowsGood : StatForm → Answer → Survey → Option FlawedRecord → Type 0
ShowsGood form answer survey None = ShowsSurvey form answer survey
ShowsGood form answer survey (Some flawed) =
    ShowsFault answer (Run (fault_of 0 survey.records flawed.flaw))

-- What is shown of a record file: its numbers, or its flaw.
abbrev pub ShowsRecords : StatForm → Answer → Survey → Type 0
ShowsRecords form answer survey = ShowsGood form answer survey survey.flawed

-- ---- either

-- Whether bytes are taken for a chunk file: where they begin with the letters PRLY.
abbrev pub is_chunk_file : List ℕ → Bool
is_chunk_file bytes = bytes_eq (take 4 bytes) (codes "PRLY")

-- What is answered of a chunk file, and of any other file.
abbrev pub IsStatOf : Bool → StatForm → List ℕ → Type 0 → Answer → Type 0
IsStatOf true form bytes failed answer = IsLookUp bytes failed (ShowsTree form) answer
IsStatOf false form bytes failed answer = IsSurveyAnswer bytes failed (ShowsRecords form) answer

-- What kind of file it is could not be read: a read failed before four of its bytes were given, and
-- this is told.
pub record IsUnknown (bytes left : List ℕ) (failed : Type 0) (answer : Answer) : Type 0 where
  pub fewer : HandedOutFewer 4 bytes left
  pub unread : IsReadFailure failed answer

-- The answer is of the kind of file that it is; or what kind that is could not be read.
abbrev pub IsStat : StatForm → List ℕ → List ℕ → Type 0 → Answer → Type 0
IsStat form bytes left failed answer =
    IsStatOf (is_chunk_file bytes) form bytes failed answer ⊎ IsUnknown bytes left failed answer

-- What `stat` answers to an honest source of a file of this kind, of what that has left.
abbrev pub AnswersOf : {S : Type 0} → Bool → (S → SourceView) → S → S → StatForm →
    Result Answer AllocError → Type 0
AnswersOf is_chunk_file seen old new form result = (seen old).is_honest ≡ true →
    IfOk result (IsStatOf is_chunk_file form (seen old).left
    ((seen new).failures ≢ (seen old).failures))

-- What `stat` answers to any honest source, of what that had left and has left.
abbrev pub AnswersStat : {S : Type 0} → (S → SourceView) → S → S → StatForm →
    Result Answer AllocError → Type 0
AnswersStat seen old new form result = (seen old).is_honest ≡ true →
    IfOk result (IsStat form (seen old).left (seen new).left
    ((seen new).failures ≢ (seen old).failures))

-- A failed read of any source is told as one of a chunk file or of file 0.
abbrev pub AnswersBadRead : {S : Type 0} → (S → SourceView) → S → S → Result Answer AllocError →
    Type 0
AnswersBadRead seen old new result = (seen new).failures ≢ (seen old).failures →
    IfOk result (λ answer. ShowsFailedRead answer ⊎ ShowsFault answer Read)
