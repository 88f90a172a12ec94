-- Writing the proof of a set of keys, from a source of chunks.
use Rattle.std.specs.Prelude.{◌≡◌, ℕ, true, List, [], ◌++◌, Option, Some, None, Result, Ok}
use Rattle.std.specs.Prelude.{Err}
use Rattle.std.specs.List.{AllByRecursion, flat_map}
use Rattle.prolly_entry.specs.Pair.{Pair}
use Rattle.prolly_entry.specs.declared.version.Version.{Version}
use Rattle.prolly_io.specs.Failures.{after_failure}
use Rattle.prolly_io.specs.Frame.{framed, IsSmall}
use Rattle.prolly_io.specs.Sink.{SinkView, TakesPrefix}
use Rattle.prolly_root.specs.RootFault.{MayFail, TellsFailure}
use Rattle.prolly_root.specs.declared.root_fault.RootFault.TheVariants.{Memory}
use Rattle.prolly_range.specs.Dues.{due_of}
use Rattle.prolly_range.specs.KeySet.{KeySet}
use Rattle.prolly_range.specs.SetProof.{AreTaken, Due, IsSetProof, Takes}
use Rattle.prolly_range.specs.declared.located.Located.{Located}
use Rattle.prolly_range.specs.declared.prove_fault.ProveFault.{ProveFault}
use Rattle.prolly_range.specs.declared.prove_fault.ProveFault.TheVariants as faults

-- What is due at a place.
abbrev pub located_due : {T : Type 0} → Located T → Due
located_due located = due_of located.due

-- ---- chunk by chunk

-- The chunk is the first that is due; or there is none, where nothing is due.
abbrev pub ProvesNext : Version → List Due → Option (List ℕ) → List Due → Type 0
ProvesNext version old None new = (old ≡ []) × (new ≡ [])
ProvesNext version old (Some chunk) new = (pairs : List Pair) × Takes version old chunk pairs new ×
    IsSmall chunk

-- ---- what a sink took

-- It took the frames of all chunks that are due, one after another; and no call of it failed.
pub record WritesRest (version : Version) (due : List Due) (old new : SinkView) : Type 0 where
  pub chunks : List (List ℕ)
  pub pairs : List Pair
  pub small : AllByRecursion IsSmall chunks
  pub taken : AreTaken version due chunks pairs []
  pub wrote : old.is_keeping ≡ true → new.taken ≡ old.taken ++ flat_map framed chunks

-- It took the proof of the set of keys.
pub record WritesProof (version : Version) (root : List ℕ) (set : KeySet) (old new : SinkView)
    : Type 0 where
  pub bytes : List ℕ
  pub pairs : List Pair
  pub proof : IsSetProof version root set bytes pairs
  pub wrote : old.is_keeping ≡ true → new.taken ≡ old.taken ++ bytes

-- It took a part of what chunks come to that are taken one after another, from the beginning on.
pub record WritesPart (version : Version) (due : List Due) (start : List ℕ) (old new : SinkView)
    : Type 0 where
  pub chunks : List (List ℕ)
  pub pairs : List Pair
  pub rest : List Due
  pub taken : AreTaken version due chunks pairs rest
  pub wrote : old.is_keeping ≡ true →
      TakesPrefix old.taken new.taken (start ++ flat_map framed chunks)

-- ---- faults

-- That a read failed is told where a call of the source of chunks failed, and only there.
abbrev pub TellsSource : {T : Type 0} → ℕ → ℕ → Result T ProveFault → Type 0
TellsSource old new (Ok done) = new ≡ old
TellsSource old new (Err (faults.Chunks fault)) = TellsFailure old new fault
TellsSource old new (Err faults.Write) = new ≡ old

-- That a write failed is told where a call of the sink failed, and only there.
abbrev pub TellsSink : {T : Type 0} → ℕ → ℕ → Result T ProveFault → Type 0
TellsSink old new (Ok done) = new ≡ old
TellsSink old new (Err (faults.Chunks fault)) = new ≡ old
TellsSink old new (Err faults.Write) = new ≡ after_failure old

-- There is no fault but a failed write, a failed read, or want of memory.
abbrev pub MayFailTo : ProveFault → Type 0
MayFailTo (faults.Chunks fault) = MayFail fault
MayFailTo faults.Write = Unit {0}

-- There is no fault but a failed write, or want of memory.
abbrev pub MayStop : ProveFault → Type 0
MayStop (faults.Chunks fault) = fault ≡ Memory
MayStop faults.Write = Unit {0}
