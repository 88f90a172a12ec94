-- What comes of a command that goes over the pairs of a tree of which only the root is known: how it
-- ends, what it wrote until then, and what is told of its source.
use Rattle.std.specs.Prelude.{◌≡◌, ◌⊎◌, ℕ, ◌-◌, ◌≤◌, List, Result, Ok, Err, [], ◌∷◌, length, take}
use Rattle.std.specs.List.{AllByRecursion}
use Rattle.std.specs.declared.alloc.AllocError.{AllocError}
use Rattle.prolly_look_up.specs.ScanWay.{AreScanned, EndsEmpty, from_behind, joined}
use Rattle.prolly_entry.specs.Pair.{Pair}
use Rattle.prolly_entry.specs.declared.version.Version.{Version}
use Rattle.prolly_io.specs.Failures.{after_failure}
use Rattle.prolly_io.specs.Sink.{SinkView}
use Rattle.prolly_root.specs.RootFault.{TellsFailure}
use Rattle.prolly_root.specs.declared.root_fault.RootFault.{RootFault}
use Rattle.prolly_text.specs.RecordForms.{written_records}
use Rattle.prolly_tree.specs.Difference.{puts}
use Rattle.prolly_fault.specs.Answers.{ShowsDone, ShowsFault}
use Rattle.prolly_fault.specs.OutputFault.{told_stop}
use Rattle.prolly_answer.specs.LookUps.{pair_lines}
use Rattle.prolly_answer.specs.Outputs.{TookAll, TookBytes, TookUntil}
use Rattle.prolly_answer.specs.declared.answers.root_pairs.Portion.{Portion}
use Rattle.prolly_answer.specs.declared.answers.root_pairs.Portion.TheVariants.{First, Whole}
use Rattle.prolly_fault.specs.declared.answer.Answer.{Answer}
use Rattle.prolly_fault.specs.declared.output_fault.OutputFault.TheVariants.{Write}
use Rattle.prolly_fault.specs.declared.root_output_fault.RootOutputFault.{RootOutputFault}
use Rattle.prolly_fault.specs.declared.root_output_fault.RootOutputFault.TheVariants.{Output}
use Rattle.prolly_fault.specs.declared.root_output_fault.RootOutputFault.TheVariants.{Root}

-- ---- what was found

-- Look-ups by the root, one after another from the key on, found these lists of pairs, by these
-- ways. `there` says where each chunk of these stands.
pub record Scanned (there : List ℕ → Type 0) (version : Version) (root from : List ℕ) : Type 0 where
  pub lists : List (List Pair)
  pub ways : List (List (List ℕ))
  pub are : AreScanned version root from lists ways
  pub stand : AllByRecursion there (joined ways)

-- Where the next look-up begins, after what these lists have.
abbrev pub behind : List ℕ → List (List Pair) → List ℕ
behind from [] = from
behind from (found ∷ lists) = behind (from_behind from found) lists

-- ---- what is wanted

-- No more is sought: the tree has no more pairs, or the lists have as many as the limit says.
abbrev pub AreEnough : Portion → List (List Pair) → Type 0
AreEnough (Whole form) lists = EndsEmpty lists
AreEnough (First notation limit) lists = (limit ≤ length (joined lists)) ⊎ EndsEmpty lists

-- What is written of these pairs: all of them in this form, or a line for each of the first.
abbrev pub portion_bytes : Portion → List Pair → List ℕ
portion_bytes (Whole form) pairs = written_records form (puts pairs)
portion_bytes (First notation limit) pairs = pair_lines notation (take limit pairs)

-- What is wanted behind these pairs.
abbrev pub left_of : Portion → List Pair → Portion
left_of (Whole form) pairs = Whole form
left_of (First notation limit) pairs = First notation (limit - length pairs)

-- ---- how it ends

-- How such a command ends: all is written, or a fault stops it.
abbrev pub Outcome : Type 0
Outcome = Result (Unit {0}) RootOutputFault

-- Where all is written, what was found is enough; where a look-up has a fault, it is one that there
-- may be, and what was found before is not enough.
abbrev pub FitsOutcome : Portion → (RootFault → Type 0) → List (List Pair) → Outcome → Type 0
FitsOutcome portion may lists (Ok done) = AreEnough portion lists
FitsOutcome portion may lists (Err (Root fault)) = ¬ (AreEnough portion lists) × may fault
FitsOutcome portion may lists (Err (Output fault)) = Unit {0}

-- The sink took all of these bytes, where no fault of writing stops the command, and else a part of
-- them. It may hold some of them back.
abbrev pub TakesFor : {W : Type 0} → (W → SinkView) → W → W → List ℕ → Outcome → Type 0
TakesFor seen old new bytes (Ok done) = TookBytes seen bytes old new
TakesFor seen old new bytes (Err (Root fault)) = TookBytes seen bytes old new
TakesFor seen old new bytes (Err (Output fault)) = TookUntil seen fault bytes old new

-- The same, and where no fault of writing stops the command it holds none of them back.
abbrev pub TakesAllFor : {W : Type 0} → (W → SinkView) → W → W → List ℕ → Outcome → Type 0
TakesAllFor seen old new bytes (Ok done) = TookAll seen bytes old new
TakesAllFor seen old new bytes (Err (Root fault)) = TookAll seen bytes old new
TakesAllFor seen old new bytes (Err (Output fault)) = TookUntil seen fault bytes old new

-- Look-ups by the root, one after another from the key on, found lists of pairs, with which this
-- outcome fits, where this portion is wanted; and of the bytes that are to be written of these
-- pairs `takes` says what the sink took. `there` says where each chunk of the ways stands, and `may`
-- why a look-up of a key is refused.
pub record IsWrittenByRoot (there : List ℕ → Type 0) (may : List ℕ → RootFault → Type 0)
    (version : Version) (root from : List ℕ) (portion : Portion)
    (takes : List ℕ → Outcome → Type 0) (outcome : Outcome) : Type 0 where
  pub found : Scanned there version root from
  pub fits : FitsOutcome portion (may (behind from found.lists)) found.lists outcome
  pub took : takes (portion_bytes portion (joined found.lists)) outcome

-- What is told of the calls of the source, whose failures were so many before and after: where one
-- failed, that is told, or that writing failed after it.
abbrev pub TellsReadsOf : ℕ → ℕ → Outcome → Type 0
TellsReadsOf old new (Ok done) = new ≡ old
TellsReadsOf old new (Err (Root fault)) = TellsFailure old new fault
TellsReadsOf old new (Err (Output fault)) =
    (new ≡ old) ⊎ ((fault ≡ Write) × (new ≡ after_failure old))

-- ---- what is answered

-- The answer shows nothing where the command is done, and else the fault.
abbrev pub ShowsOutcome : Answer → Outcome → Type 0
ShowsOutcome answer (Ok done) = ShowsDone answer
ShowsOutcome answer (Err stop) = ShowsFault answer (told_stop stop)

-- The answer is that of such an outcome, of which `is` says how it came to it.
pub record AnswersOutcome (is : Outcome → Type 0) (answer : Answer) : Type 0 where
  pub outcome : Outcome
  pub so : is outcome
  pub shows : ShowsOutcome answer outcome

-- An outcome of which `is` holds is answered; or a fault stopped the command, of which it holds, and
-- memory for the fault's line is refused.
abbrev pub IsAnswered : (Outcome → Type 0) → Result Answer AllocError → Type 0
IsAnswered is (Ok answer) = AnswersOutcome is answer
IsAnswered is (Err refused) = (stop : RootOutputFault) × is (Err stop)
