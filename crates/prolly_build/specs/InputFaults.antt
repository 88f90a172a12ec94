-- What a build names, and what it leaves, where a record file is at fault.
use Rattle.std.specs.Prelude.{◌≡◌, ◌≢◌, ◌⊎◌, ℕ, ◌+◌, true, List, [], ◌∷◌, ◌++◌, length, Option}
use Rattle.std.specs.Prelude.{Some, None}
use Rattle.prolly_tree.specs.Chunk.{begun_chunks}
use Rattle.prolly_entry.specs.Cut.{sha512_cut}
use Rattle.prolly_tree.specs.File.{header}
use Rattle.prolly_tree.specs.Merge.{Input, stop, stop_fault, merged_part}
use Rattle.prolly_entry.specs.Pair.{Pair}
use Rattle.prolly_tree.specs.Pipeline.{within_stages}
use Rattle.prolly_entry.specs.Reading.{IsReading}
use Rattle.prolly_entry.specs.declared.next.Flaw.{Flaw}
use Rattle.prolly_io.specs.Source.{SourceView}
use Rattle.prolly_io.specs.Sink.{SinkView, TakesPrefix}
use Rattle.prolly_link.specs.declared.fault.RunFault.{RunFault}
use Rattle.prolly_link.specs.declared.fault.RunFault.TheVariants as faults
use Rattle.prolly_load.specs.Fault.{fault_of as fault_of_flaw}
use Rattle.prolly_load.specs.Loaded.{IsReadTo}
use Rattle.prolly_build.specs.Config.{Settings}
use Rattle.prolly_build.specs.WriterState.{frames_of}

-- How the ending of a file's reading is told: not at all where it is clean, else as the flaw of the
-- record at this place.
abbrev pub ending_told : ℕ → ℕ → Option Flaw → Option RunFault
ending_told file place None = None
ending_told file place (Some flaw) = Some (fault_of_flaw file place flaw)

-- A fault of a record file.
abbrev pub IsFileFault : RunFault → Type 0
IsFileFault (faults.Read f) = Unit {0}
IsFileFault (faults.Truncated f place) = Unit {0}
IsFileFault (faults.KeyTooLong f place) = Unit {0}
IsFileFault (faults.ValueTooLong f place) = Unit {0}
IsFileFault (faults.OutOfOrder f place) = Unit {0}
IsFileFault (faults.TooManyRecords f) = Unit {0}
IsFileFault _ = ⊥

module _ {S : Type 0} (seen : S → SourceView) where
  -- No read failed: the reading of some bytes, with what it ends in. Where the source is honest
  -- they are those that it had left.
  pub record IsReadingOf (file limit : ℕ) (before after : S) (input : Input RunFault) : Type 0 where
    pub unfailed : (seen after).failures ≡ (seen before).failures
    pub bytes : List ℕ
    pub left : (seen before).is_honest ≡ true → bytes ≡ (seen before).left
    pub ending : Option Flaw
    pub reading : IsReading bytes limit input.records ending
    pub told : input.fault ≡ ending_told file (length input.records) ending

  -- The source failed: the records of some bytes, with a failed read. Where it is honest these are
  -- what it had handed out till then, and stand before those that it has left.
  pub record IsFailureOf (file limit : ℕ) (before after : S) (input : Input RunFault) : Type 0 where
    pub failed : (seen after).failures ≢ (seen before).failures
    pub handed : List ℕ
    pub kept : (seen before).is_honest ≡ true → (seen before).left ≡ handed ++ (seen after).left
    pub read : IsReadTo handed limit input.records
    pub told : input.fault ≡ Some (faults.Read file)

  -- What the files count for, each in its place, from this file number on.
  abbrev pub CountFor : ℕ → ℕ → List S → List S → List (Input RunFault) → Type 0
  CountFor file limit [] [] [] = Unit {0}
  CountFor file limit (s ∷ ss) (t ∷ ts) (i ∷ inputs) =
      (IsReadingOf file limit s t i ⊎ IsFailureOf file limit s t i) ×
      CountFor (file + 1) limit ss ts inputs
  CountFor file limit _ _ _ = ⊥

-- What is written of the pairs that come before a fault: the header, and a frame for each chunk
-- that they close, up to, and without, the second one of the last stage's level.
abbrev pub begun_of : Settings → List Pair → List ℕ
begun_of settings p =
    frames_of (header settings.version settings.bits)
    (within_stages settings.stages (begun_chunks (sha512_cut settings.bits) settings.version p))

-- The sink took just that, or, where it failed, a prefix of it.
pub record TookBegun (settings : Settings) (p : List Pair) (old new : SinkView) : Type 0 where
  pub all : new.failures ≡ old.failures → old.is_keeping ≡ true →
      new.taken ≡ old.taken ++ begun_of settings p
  pub part : old.is_keeping ≡ true → TakesPrefix old.taken new.taken (begun_of settings p)

-- The fault is the stop of what the files count for, and the sink took what the pairs before it
-- begin.
pub record IsStopped {S : Type 0} (seen : S → SourceView) (settings : Settings)
    (before after : List S) (old new : SinkView)
    (fault : RunFault) : Type 0 where
  pub inputs : List (Input RunFault)
  pub count_for : CountFor seen 0 settings.max_records before after inputs
  pub named : stop_fault (stop inputs) ≡ Some fault
  pub took : TookBegun settings (merged_part inputs) old new
