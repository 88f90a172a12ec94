-- What the command `scratch` answers.
use Rattle.std.specs.Prelude.{◌≡◌, ℕ, List, []}
use Rattle.prolly_entry.specs.declared.version.Version.{Version}
use Rattle.prolly_entry.specs.declared.record_file.RecordFault.{RecordFault}
use Rattle.prolly_entry.specs.declared.record_file.RecordFault.TheVariants as records
use Rattle.prolly_entry.specs.Pair.{Pair}
use Rattle.prolly_entry.specs.Cut.{sha512_cut}
use Rattle.prolly_entry.specs.RecordList.{ArePairsOf, IsFaultOf}
use Rattle.prolly_entry.specs.Reference.{reference_text}
use Rattle.prolly_file.specs.Scratch.{Builds, IsTallerTree}
use Rattle.prolly_link.specs.declared.fault.RunFault.{RunFault}
use Rattle.prolly_link.specs.declared.fault.RunFault.TheVariants as runs
use Rattle.prolly_fault.specs.declared.fault.Fault.{Fault}
use Rattle.prolly_fault.specs.declared.fault.Fault.TheVariants.{Run}
use Rattle.prolly_answer.specs.Input.{IsReadWhole, IsInputFault}

-- The input was read whole, and is a record file of at most 16,777,216 records: these are its
-- pairs.
pub record HoldsPairs (bytes : List ℕ) (has_failed : Type 0) (pairs : List Pair) : Type 0 where
  pub whole : IsReadWhole bytes has_failed
  pub are : ArePairsOf bytes 16777216 pairs

-- This is the chunk file of the input's pairs, whose tree has at most 255 levels, with the
-- reference of its root.
pub record MakesFile (bits : ℕ) (version : Version) (bytes : List ℕ) (has_failed : Type 0)
    (file root : List ℕ) : Type 0 where
  pub pairs : List Pair
  pub held : HoldsPairs bytes has_failed pairs
  pub builds : Builds (sha512_cut bits) version pairs 255 [] file root

-- It is, and the line is the text of the root's reference.
pub record Scratches (bits : ℕ) (version : Version) (bytes : List ℕ) (has_failed : Type 0)
    (file line : List ℕ) : Type 0 where
  pub root : List ℕ
  pub makes : MakesFile bits version bytes has_failed file root
  pub line_is : line ≡ reference_text root

-- The tree of the input's pairs has more levels.
pub record MakesTallTree (bits : ℕ) (version : Version) (bytes : List ℕ) (has_failed : Type 0)
    : Type 0 where
  pub pairs : List Pair
  pub held : HoldsPairs bytes has_failed pairs
  pub tall : IsTallerTree (sha512_cut bits) version pairs 255

-- The input was read whole, and is no record file: this is its fault, told as that of file 0.
pub record IsNoRecordFile (bytes : List ℕ) (has_failed : Type 0) (file : ℕ) (fault : RecordFault)
    : Type 0 where
  pub file_is : file ≡ 0
  pub whole : IsReadWhole bytes has_failed
  pub is : IsFaultOf bytes 16777216 fault

-- The input gives no pairs: it can't be read, or it is no record file.
abbrev pub IsRecordsFault : List ℕ → Type 0 → Fault → Type 0
IsRecordsFault bytes has_failed (Run runs.Memory) = ¬ has_failed
IsRecordsFault bytes has_failed (Run (runs.Truncated file place)) =
    IsNoRecordFile bytes has_failed file (records.Truncated place)
IsRecordsFault bytes has_failed (Run (runs.KeyTooLong file place)) =
    IsNoRecordFile bytes has_failed file (records.KeyTooLong place)
IsRecordsFault bytes has_failed (Run (runs.ValueTooLong file place)) =
    IsNoRecordFile bytes has_failed file (records.ValueTooLong place)
IsRecordsFault bytes has_failed (Run (runs.OutOfOrder file place)) =
    IsNoRecordFile bytes has_failed file (records.OutOfOrder place)
IsRecordsFault bytes has_failed (Run (runs.TooManyRecords file)) =
    IsNoRecordFile bytes has_failed file records.TooManyRecords
IsRecordsFault bytes has_failed fault = IsInputFault bytes has_failed fault

-- The input gives no chunk file: it gives no pairs, or too tall a tree.
abbrev pub IsScratchRefusal : ℕ → Version → List ℕ → Type 0 → Fault → Type 0
IsScratchRefusal bits version bytes has_failed (Run runs.TooTall) =
    MakesTallTree bits version bytes has_failed
IsScratchRefusal bits version bytes has_failed fault = IsRecordsFault bytes has_failed fault

-- The fault of file 0 that a record fault is.
abbrev pub run_fault : RecordFault → RunFault
run_fault records.Memory = runs.Memory
run_fault (records.Truncated place) = runs.Truncated 0 place
run_fault (records.KeyTooLong place) = runs.KeyTooLong 0 place
run_fault (records.ValueTooLong place) = runs.ValueTooLong 0 place
run_fault (records.OutOfOrder place) = runs.OutOfOrder 0 place
run_fault records.TooManyRecords = runs.TooManyRecords 0
