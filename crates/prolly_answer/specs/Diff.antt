-- What the command `diff` answers.
use Rattle.std.specs.Prelude.{◌⊎◌, ℕ, List, [], Option, Some, None, Bool, true, false}
use Rattle.prolly_look_up.specs.Content.{Content}
use Rattle.prolly_entry.specs.Pair.{Pair}
use Rattle.prolly_entry.specs.Record.{Record}
use Rattle.prolly_tree.specs.Difference.{IsDifference}
use Rattle.prolly_fault.specs.Answers.{Shows}
use Rattle.prolly_answer.specs.Counts.{are_some, counts_line}
use Rattle.prolly_answer.specs.LookUps.{IsLookedUp, IsNoFileAs}
use Rattle.prolly_answer.specs.Outputs.{IsShownPart}
use Rattle.prolly_text.specs.RecordForms.{written_records}
use Rattle.prolly_fault.specs.declared.answer.Answer.{Answer}
use Rattle.prolly_fault.specs.declared.output_fault.OutputFault.{OutputFault}
use Rattle.prolly_text.specs.declared.lines.form.RecordForm.{RecordForm}
use Rattle.prolly_fault.specs.declared.fault.Fault.TheVariants.{CheckOld, CheckNew}

-- ---- of which difference

-- The two maps have a difference, there is no other (`OneDifference`), and this holds of it.
pub record HasDifference (old new : List Pair) (holds : List Record → Type 0) : Type 0 where
  pub records : List Record
  pub is : IsDifference old new records
  pub so : holds records

-- Both files were read whole and are the files of these contents, of whose difference this holds.
abbrev pub AreTwoFiles : List ℕ → Type 0 → List ℕ → Type 0 →
    (Content → Content → List Record → Type 0) → Type 0
AreTwoFiles old old_failed new new_failed holds = IsLookedUp old old_failed
    (λ before. IsLookedUp new new_failed (λ after. HasDifference before.pairs after.pairs
    (holds before after)))

-- Both files were read whole, and this holds of the difference of their maps.
abbrev pub HaveChanges : List ℕ → Type 0 → List ℕ → Type 0 → (List Record → Type 0) → Type 0
HaveChanges old old_failed new new_failed holds =
    AreTwoFiles old old_failed new new_failed (λ before after. holds)

-- ---- what is written

-- Where a form is given, `took` holds of the records in this form, and else the sink is untouched.
abbrev pub AreWritten : Option RecordForm → (List ℕ → Type 0) → Type 0 → List Record → Type 0
AreWritten None took untouched records = untouched
AreWritten (Some form) took untouched records = took (written_records form records)

-- The records were written until the fault; where no form is given, nothing is written that may be
-- stopped.
abbrev pub AreStopped : Option RecordForm → (OutputFault → List ℕ → Type 0) → OutputFault →
    List Record → Type 0
AreStopped None took_until fault records = ⊥
AreStopped (Some form) took_until fault records = took_until fault (written_records form records)

-- ---- the answer

-- The status is 0 where there is no change, and 1 where there is one.
abbrev pub status_of : Bool → ℕ
status_of false = 0
status_of true = 1

-- What is shown of the difference: the line of its numbers, where it is asked for.
abbrev pub stat_shown : Bool → Content → Content → List Record → List ℕ
stat_shown false old new records = []
stat_shown true old new records = counts_line old new records

-- Done: the numbers are shown where they are asked for, and the status tells whether there are
-- changes.
abbrev pub ShowsDiff : Answer → Bool → Content → Content → List Record → Type 0
ShowsDiff answer stat old new records =
    Shows answer (status_of (are_some records)) (stat_shown stat old new records) []

-- The old file is refused; or it is lawful, and the new one is refused.
abbrev pub IsOneRefused : List ℕ → Type 0 → List ℕ → Type 0 → Answer → Type 0
IsOneRefused old old_failed new new_failed answer = IsNoFileAs CheckOld old old_failed answer
    ⊎ (IsLookedUp old old_failed (λ content. Unit {0}) × IsNoFileAs CheckNew new new_failed answer)

-- The answer of `diff`: the difference was written, if it was to be, and the status tells whether
-- it has changes; writing it was cut off by a fault; or one of the files is refused. Of the sink,
-- `took_all` says that it took all of these bytes, `took_until` that it took a part of them until a
-- fault, `untouched` that it is as it was.
abbrev pub IsDiff : Option RecordForm → Bool → List ℕ → Type 0 → List ℕ → Type 0 →
    (List ℕ → Type 0) → (OutputFault → List ℕ → Type 0) → Type 0 → Answer → Type 0
IsDiff form stat old old_failed new new_failed took_all took_until untouched answer =
    AreTwoFiles old old_failed new new_failed
    (λ before after records. AreWritten form took_all untouched records ×
    ShowsDiff answer stat before after records)
    ⊎ IsShownPart (HaveChanges old old_failed new new_failed) (AreStopped form took_until) answer
    ⊎ (IsOneRefused old old_failed new new_failed answer × untouched)
