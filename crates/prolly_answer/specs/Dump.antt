-- What the command `dump` answers.
use Rattle.std.specs.Prelude.{◌≡◌, ◌⊎◌, ℕ, List}
use Rattle.prolly_entry.specs.Pair.{Pair}
use Rattle.prolly_entry.specs.Record.{Record}
use Rattle.prolly_tree.specs.Difference.{puts}
use Rattle.prolly_tree.specs.RecordFile.{record_file}
use Rattle.prolly_fault.specs.Answers.{ShowsDone}
use Rattle.prolly_answer.specs.LookUps.{IsLookedUp, IsNoFile}
use Rattle.prolly_answer.specs.Outputs.{IsShownPart}
use Rattle.prolly_text.specs.RecordForms.{written_records}
use Rattle.prolly_fault.specs.declared.answer.Answer.{Answer}
use Rattle.prolly_fault.specs.declared.output_fault.OutputFault.{OutputFault}
use Rattle.prolly_fault.specs.declared.output_fault.OutputFault.TheVariants.{Write}
use Rattle.prolly_text.specs.declared.lines.form.RecordForm.{RecordForm}
use Rattle.prolly_text.specs.declared.lines.form.RecordForm.TheVariants.{Lines, Records}

-- The bytes were read whole and are the file of a map, and this holds of the records that put its
-- pairs.
abbrev pub IsDumped : List ℕ → Type 0 → (List Record → Type 0) → Type 0
IsDumped bytes failed holds = IsLookedUp bytes failed (λ content. holds (puts content.pairs))

-- The fault may stop a dump in this form: a record file is written from where it lies, and takes no
-- memory that may be refused.
abbrev pub MayStop : RecordForm → OutputFault → Type 0
MayStop (Lines notation) fault = Unit {0}
MayStop Records fault = fault ≡ Write

-- The records were written in this form until the fault, which may stop that.
abbrev pub IsStoppedDump : RecordForm → (OutputFault → List ℕ → Type 0) → OutputFault → List Record →
    Type 0
IsStoppedDump form took_until fault records = MayStop form fault ×
    took_until fault (written_records form records)

-- The answer of `dump`: the pairs were written in this form; writing them was cut off by a fault;
-- or the bytes are refused. Of the sink, `took_all` says that it took all of these bytes,
-- `took_until` that it took a part of them until a fault, `untouched` that it is as it was.
abbrev pub IsDump : RecordForm → List ℕ → Type 0 → (List ℕ → Type 0) →
    (OutputFault → List ℕ → Type 0) → Type 0 → Answer → Type 0
IsDump form bytes failed took_all took_until untouched answer =
    (IsDumped bytes failed (λ records. took_all (written_records form records)) ×
    ShowsDone answer)
    ⊎ IsShownPart (IsDumped bytes failed) (IsStoppedDump form took_until) answer
    ⊎ (IsNoFile bytes failed answer × untouched)

-- Law: the records that put the pairs of a map are, as a record file, the record file of the map.
abbrev pub RecordFilesAreDumped : Type 0
RecordFilesAreDumped = (m : List Pair) → written_records Records (puts m) ≡ record_file m
