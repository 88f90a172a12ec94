-- What a command that makes a file does to the sink that it is lent, and what it answers.
use Rattle.std.specs.Prelude.{◌≡◌, ◌≢◌, ℕ, ◌⊎◌, true, List, ◌++◌, Option, Some, None, Result, Ok, Err}
use Rattle.prolly_entry.specs.Record.{Record}
use Rattle.prolly_io.specs.Sink.{IsSettled, SinkView, TakesPrefix}
use Rattle.prolly_io.specs.Writes.{Writes}
use Rattle.prolly_fault.specs.declared.answer.Answer.{Answer}
use Rattle.prolly_fault.specs.declared.fault.Fault.{Fault}
use Rattle.prolly_fault.specs.declared.fault.Fault.TheVariants as faults
use Rattle.prolly_fault.specs.declared.output_fault.OutputFault.{OutputFault}
use Rattle.prolly_fault.specs.declared.output_fault.OutputFault.TheVariants.{Memory, Write}
use Rattle.prolly_fault.specs.Answers.{ShowsLine, ShowsFault}
use Rattle.prolly_fault.specs.Flushes.{IsFlushedAs}
use Rattle.prolly_fault.specs.OutputFault.{told}

-- ---- sinks

-- The sink took all of these bytes, and no call of it failed. It may hold some of them back.
pub record TookBytes {W : Type 0} (seen : W → SinkView) (bytes : List ℕ) (old new : W)
    : Type 0 where
  pub unfailed : (seen new).failures ≡ (seen old).failures
  pub took : (seen old).is_keeping ≡ true → (seen new).taken ≡ (seen old).taken ++ bytes

-- So far the sink took these bytes, and goes on.
pub record TookSoFar {W : Type 0} (seen : W → SinkView) (bytes : List ℕ) (old new : W)
    : Type 0 where
  pub all : TookBytes seen bytes old new
  pub keeping : (seen old).is_keeping ≡ true → (seen new).is_keeping ≡ true

-- The sink took all of these bytes and keeps what it takes, if it did, no call of it failed, and where
-- it had held no byte back before it holds none back now.
pub record TookAll {W : Type 0} (seen : W → SinkView) (bytes : List ℕ) (old new : W) : Type 0 where
  pub unfailed : (seen new).failures ≡ (seen old).failures
  pub took : (seen old).is_keeping ≡ true → (seen new).taken ≡ (seen old).taken ++ bytes
  pub keeping : (seen old).is_keeping ≡ true → (seen new).is_keeping ≡ true
  pub settled : IsSettled (seen old) → IsSettled (seen new)

-- A call of the sink failed, and it took a prefix of these bytes.
pub record TookPart {W : Type 0} (seen : W → SinkView) (bytes : List ℕ) (old new : W) : Type 0 where
  pub failed : (seen new).failures ≢ (seen old).failures
  pub took : (seen old).is_keeping ≡ true → TakesPrefix (seen old).taken (seen new).taken bytes

-- No call of the sink failed, and it took a prefix of these bytes.
pub record TookPrefix {W : Type 0} (seen : W → SinkView) (bytes : List ℕ) (old new : W)
    : Type 0 where
  pub unfailed : (seen new).failures ≡ (seen old).failures
  pub took : (seen old).is_keeping ≡ true → TakesPrefix (seen old).taken (seen new).taken bytes

-- The sink took a part of these bytes, until a call of it failed, or memory was refused.
abbrev pub TookUntil : {W : Type 0} → (W → SinkView) → OutputFault → List ℕ → W → W → Type 0
TookUntil seen Write bytes old new = TookPart seen bytes old new
TookUntil seen Memory bytes old new = TookPrefix seen bytes old new

-- These bytes were written to the sink, or it took a part of them and failed; or memory for them was
-- refused, and it is as it was.
abbrev pub WroteOwn : {W T : Type 0} → (W → SinkView) → List ℕ → W → W → Result T OutputFault →
    Type 0
WroteOwn {T = T} seen own old new (Ok x) =
    Writes {T = T} {E = OutputFault} own (seen old) (seen new) (Ok x)
WroteOwn seen own old new (Err Memory) = new ≡ old
WroteOwn {T = T} seen own old new (Err Write) =
    Writes {T = T} {E = OutputFault} own (seen old) (seen new) (Err Write)

-- So it was, where no write had failed before.
abbrev pub IsSettledAs : {W T F : Type 0} → (W → SinkView) → F → W → W → Result T F → Result T F →
    Type 0
IsSettledAs seen write old new outcome answered =
    ((outcome ≡ Err write) × (answered ≡ outcome) × (new ≡ old))
    ⊎ ((outcome ≢ Err write) × IsFlushedAs seen (Err write) old new outcome answered)

-- This happened to the sink, if there is one.
abbrev pub IfSink : {W : Type 0} → (W → W → Type 0) → Option W → Option W → Type 0
IfSink happened None None = Unit {0}
IfSink happened None (Some new) = ⊥
IfSink happened (Some old) None = ⊥
IfSink happened (Some old) (Some new) = happened old new

-- There is a sink, and this happened to it.
abbrev pub OfSink : {W : Type 0} → (W → W → Type 0) → Option W → Option W → Type 0
OfSink happened None new = ⊥
OfSink happened (Some old) None = ⊥
OfSink happened (Some old) (Some new) = happened old new

-- ---- records that are written

-- The records are there, and they were not all written, for some fault.
pub record IsPart (are : (List Record → Type 0) → Type 0)
    (took_until : OutputFault → List Record → Type 0) : Type 0 where
  pub fault : OutputFault
  pub is : are (took_until fault)

-- The records are there, they were not all written, and the answer shows the fault.
pub record IsShownPart (are : (List Record → Type 0) → Type 0)
    (took_until : OutputFault → List Record → Type 0) (answer : Answer) : Type 0 where
  pub fault : OutputFault
  pub is : are (took_until fault)
  pub shows : ShowsFault answer (told fault)

-- ---- answers

-- Done: there is a file, which was written, and its line is shown.
pub record IsDone (makes : List ℕ → List ℕ → Type 0) (written : List ℕ → Type 0) (answer : Answer)
    : Type 0 where
  pub file : List ℕ
  pub line : List ℕ
  pub made : makes file line
  pub is_written : written file
  pub shows : ShowsLine answer line

-- There is a file, and writing it failed.
pub record IsCutShort (makes : List ℕ → List ℕ → Type 0) (written : List ℕ → Type 0) : Type 0 where
  pub file : List ℕ
  pub line : List ℕ
  pub made : makes file line
  pub is_written : written file

-- There is no file.
pub record IsRefused (at_fault : Fault → Type 0) (answer : Answer) : Type 0 where
  pub fault : Fault
  pub is : at_fault fault
  pub shows : ShowsFault answer fault

-- The answer of a command of which `makes` says which file and line it makes, and `at_fault` for
-- which fault it makes none. Of the sink, `took_all` says that it took all of a file, `took_part`
-- that it failed after a part of one, `untouched` that it is as it was.
abbrev pub IsAnswer : (List ℕ → List ℕ → Type 0) → (Fault → Type 0) → (List ℕ → Type 0) →
    (List ℕ → Type 0) → Type 0 → Answer → Type 0
IsAnswer makes at_fault took_all took_part untouched answer =
    IsDone makes took_all answer
    ⊎ (IsCutShort makes took_part × ShowsFault answer faults.Write)
    ⊎ (IsRefused at_fault answer × untouched)
