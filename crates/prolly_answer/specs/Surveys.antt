-- What `explain` answers, and what a command says of a record file that it goes over once.
use Rattle.std.specs.Prelude.{◌≡◌, ◌≢◌, ℕ, ◌⊎◌, true, List, [], ◌++◌, codes, Option, Some, None}
use Rattle.std.specs.Prelude.{Result, IfOk}
use Rattle.std.specs.Fmt.{decimal}
use Rattle.std.specs.Option.{option_copied}
use Rattle.std.specs.declared.alloc.AllocError.{AllocError}
use Rattle.prolly_io.specs.Source.{SourceView}
use Rattle.prolly_load.specs.Survey.{IsSurvey, key_bytes}
use Rattle.prolly_load.specs.declared.tally.FlawedRecord.{FlawedRecord}
use Rattle.prolly_load.specs.declared.tally.Survey.{Survey}
use Rattle.prolly_text.specs.Flaws.{flawed_text}
use Rattle.prolly_text.specs.declared.numbers.records.RecordNumbers.{RecordNumbers}
use Rattle.prolly_text.specs.declared.notation.Notation.{Notation}
use Rattle.prolly_fault.specs.Answers.{Shows, ShowsLine, ShowsFault}
use Rattle.prolly_fault.specs.declared.answer.Answer.{Answer}
use Rattle.prolly_fault.specs.declared.fault.Fault.TheVariants.{Read}

-- No read of the bytes failed, and of the survey of them as a record file this is shown.
pub record IsSurveyed (bytes : List ℕ) (failed : Type 0) (shows : Survey → Type 0) : Type 0 where
  pub unfailed : ¬ failed
  pub survey : Survey
  pub is : IsSurvey bytes 16777216 survey
  pub shown : shows survey

-- A read failed, and this is told.
pub record IsReadFailure (failed : Type 0) (answer : Answer) : Type 0 where
  pub failed_is : failed
  pub shows : ShowsFault answer Read

-- The answer of a command of which `shows` says what it shows of a survey.
abbrev pub IsSurveyAnswer : List ℕ → Type 0 → (Answer → Survey → Type 0) → Answer → Type 0
IsSurveyAnswer bytes failed shows answer =
    IsSurveyed bytes failed (shows answer) ⊎ IsReadFailure failed answer

-- What such a command answers to an honest source, of what that has left.
abbrev pub AnswersSurvey : {S : Type 0} → (S → SourceView) → S → S → (Answer → Survey → Type 0) →
    Result Answer AllocError → Type 0
AnswersSurvey seen old new shows result = (seen old).is_honest ≡ true →
    IfOk result (IsSurveyAnswer (seen old).left ((seen new).failures ≢ (seen old).failures) shows)

-- A failed read of any source is told as one.
abbrev pub AnswersUnread : {S : Type 0} → (S → SourceView) → S → S → Result Answer AllocError →
    Type 0
AnswersUnread seen old new result = (seen new).failures ≢ (seen old).failures →
    IfOk result (λ answer. ShowsFault answer Read)

-- The numbers are those of a survey.
pub record AreOfSurvey (survey : Survey) (numbers : RecordNumbers) : Type 0 where
  pub records_are : numbers.records ≡ survey.records
  pub removals_are : numbers.removals ≡ survey.removals
  pub bytes_are : numbers.bytes ≡ survey.bytes
  pub first_is : option_copied numbers.first_key ≡ key_bytes survey.first_key
  pub last_is : option_copied numbers.last_key ≡ key_bytes survey.last_key

-- ---- explain

-- The flawed record behind the good ones of a survey is explained, with status 1.
pub record ShowsFlaw (notation : Notation) (answer : Answer) (survey : Survey)
    (flawed : FlawedRecord) : Type 0 where
  pub good : RecordNumbers
  pub are : AreOfSurvey survey good
  pub shows : Shows answer 1 (flawed_text notation good flawed.flaw (key_bytes flawed.key)) []

-- `ok`, and how many records there are.
abbrev pub good_text : Survey → List ℕ
good_text survey = codes "ok " ++ decimal survey.records

-- That the file is good, or else its flaw.
abbrev pub ShowsReason : Notation → Answer → Survey → Option FlawedRecord → Type 0
ShowsReason notation answer survey None = ShowsLine answer (good_text survey)
ShowsReason notation answer survey (Some flawed) = ShowsFlaw notation answer survey flawed

-- What is shown of a record file: its flaw with the keys, or that there is none.
abbrev pub ShowsExplanation : Notation → Answer → Survey → Type 0
ShowsExplanation notation answer survey = ShowsReason notation answer survey survey.flawed
