-- What the command `pack` answers.
use Rattle.std.specs.Prelude.{◌≡◌, ◌⊎◌, ℕ, true, List, []}
use Rattle.std.specs.Prelude.{◌≢◌, Result, IfOk, OnErr}
use Rattle.std.specs.declared.alloc.AllocError.{AllocError}
use Rattle.std.specs.Fmt.{decimal}
use Rattle.prolly_text.specs.declared.lines.form.LineForm.{LineForm}
use Rattle.prolly_fault.specs.declared.fault.Fault.{Fault}
use Rattle.prolly_fault.specs.declared.fault.Fault.TheVariants.{Pack, Read}
use Rattle.prolly_io.specs.Sink.{SinkView}
use Rattle.prolly_io.specs.Source.{SourceView}
use Rattle.prolly_fault.specs.Answers.{ShowsFault}
use Rattle.prolly_answer.specs.Outputs.{IsAnswer, IsCutShort, TookAll, TookPart}
use Rattle.prolly_fault.specs.declared.answer.Answer.{Answer}
use Rattle.prolly_answer.specs.Input.{IsReadWhole, IsInputFault}
use Rattle.prolly_text.specs.PackedLines.{IsLinesFault, Packs}

-- The text was read whole, it is packed into this record file, and the line is the number of its
-- records.
pub record PacksTo (form : LineForm) (text : List ℕ) (has_failed : Type 0) (file line : List ℕ)
    : Type 0 where
  pub whole : IsReadWhole text has_failed
  pub count : ℕ
  pub packs : Packs form text [] file count
  pub line_is : line ≡ decimal count

-- The text is not packed: it can't be read, or it was read whole and one of its lines is at fault.
abbrev pub IsPackingFault : LineForm → List ℕ → Type 0 → Fault → Type 0
IsPackingFault form text has_failed (Pack fault) =
    IsReadWhole text has_failed × IsLinesFault form text fault
IsPackingFault form text has_failed fault = IsInputFault text has_failed fault

-- What `pack` answers to an honest source, of what that has left, and what it does to its sink.
abbrev pub AnswersPack : {S W : Type 0} → (S → SourceView) → (W → SinkView) → LineForm → S → S → W →
    W → Result Answer AllocError → Type 0
AnswersPack seen sunk form old new before after result = (seen old).is_honest ≡ true →
    IfOk result (IsAnswer
    (PacksTo form (seen old).left ((seen new).failures ≢ (seen old).failures))
    (IsPackingFault form (seen old).left ((seen new).failures ≢ (seen old).failures))
    (λ file. TookAll sunk file before after) (λ file. TookPart sunk file before after)
    (after ≡ before))

-- What it has done to its sink where memory was refused for the answer's own text.
abbrev pub LeavesPack : {S W : Type 0} → (S → SourceView) → (W → SinkView) → LineForm → S → S → W →
    W → Result Answer AllocError → Type 0
LeavesPack seen sunk form old new before after result = (seen old).is_honest ≡ true →
    OnErr result ((after ≡ before) ⊎ IsCutShort
    (PacksTo form (seen old).left ((seen new).failures ≢ (seen old).failures))
    (λ file. TookPart sunk file before after))

-- A failed read of any source is told as one, and the sink is as it was.
abbrev pub TellsPackRead : {S W : Type 0} → (S → SourceView) → S → S → W → W →
    Result Answer AllocError → Type 0
TellsPackRead seen old new before after result = (seen new).failures ≢ (seen old).failures →
    (after ≡ before) × IfOk result (λ answer. ShowsFault answer Read)
