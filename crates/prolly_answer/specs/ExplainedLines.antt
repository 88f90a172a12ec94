-- What `explain --lines` answers.
use Rattle.std.specs.Prelude.{◌≡◌, ◌≢◌, ◌⊎◌, ℕ, zero, suc, ◌^◌, ◌≤◌, ◌==◌, Bool, true, false, List}
use Rattle.std.specs.Prelude.{[], ◌++◌, codes, if◌then◌else◌, length, Result, IfOk}
use Rattle.std.specs.Fmt.{decimal}
use Rattle.std.specs.declared.alloc.AllocError.{AllocError}
use Rattle.prolly_io.specs.Source.{SourceView}
use Rattle.prolly_text.specs.FaultyLines.{AreExplained}
use Rattle.prolly_text.specs.declared.lines.explain.LineCounts.{LineCounts}
use Rattle.prolly_text.specs.declared.lines.form.LineForm.{LineForm}
use Rattle.prolly_fault.specs.Answers.{Shows, ShowsFault, ShowsLine}
use Rattle.prolly_answer.specs.Surveys.{IsReadFailure}
use Rattle.prolly_fault.specs.declared.answer.Answer.{Answer}
use Rattle.prolly_fault.specs.declared.fault.Fault.TheVariants.{InputTooLong}

-- How many faulty lines are explained: the first one, or each up to a hundred.
abbrev pub limit_of : Bool → ℕ
limit_of true = 100
limit_of false = 1

-- What is said behind so many explanations.
abbrev pub more_text : ℕ → List ℕ
more_text faulty = if faulty == 100 then codes "there may be more\n" else []

-- `ok` and how many lines there are, where none is at fault; else, with status 1, what explains
-- those that are.
abbrev pub ShowsCounts : Answer → ℕ → ℕ → List ℕ → Type 0
ShowsCounts answer lines zero shown = ShowsLine answer (codes "ok " ++ decimal lines)
ShowsCounts answer lines (suc faulty) shown =
    Shows answer 1 (shown ++ more_text (suc faulty)) []

-- No read failed, and the lines of the text are explained, up to the limit.
pub record ExplainsText (form : LineForm) (all : Bool) (text : List ℕ) (failed : Type 0)
    (answer : Answer) : Type 0 where
  pub unfailed : ¬ failed
  pub counts : LineCounts
  pub explained : List ℕ
  pub are : AreExplained form (limit_of all) text [] explained counts
  pub shows : ShowsCounts answer counts.lines counts.faulty explained

-- The text has 2 ^ 64 bytes or more, and this is told.
pub record IsTooLong (text : List ℕ) (answer : Answer) : Type 0 where
  pub long : 2 ^ 64 ≤ length text
  pub shows : ShowsFault answer InputTooLong

-- What it answers of a text.
abbrev pub IsLinesAnswer : LineForm → Bool → List ℕ → Type 0 → Answer → Type 0
IsLinesAnswer form all text failed answer =
    ExplainsText form all text failed answer
    ⊎ IsReadFailure failed answer
    ⊎ IsTooLong text answer

-- What it answers to an honest source, of what that has left.
abbrev pub AnswersLines : {S : Type 0} → (S → SourceView) → S → S → LineForm → Bool →
    Result Answer AllocError → Type 0
AnswersLines seen old new form all result = (seen old).is_honest ≡ true →
    IfOk result (IsLinesAnswer form all (seen old).left ((seen new).failures ≢ (seen old).failures))
