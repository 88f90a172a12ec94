-- Proofs of ranges, and the runs that hold what they show. (This project's rules.)
use Rattle.std.specs.List.{AllByRecursion}
use Rattle.std.specs.Prelude.{◌≡◌, ◌≤◌, ◌⊎◌, ℕ, Bool, List, [], ◌∷◌, ◌++◌, length, map, min, take}
use Rattle.std.specs.Prelude.{Option, Some, None, if◌then◌else◌}
use Rattle.prolly_look_up.specs.Content.{chunk_bytes}
use Rattle.prolly_look_up.specs.Kinds.{kind_of}
use Rattle.prolly_look_up.specs.PairsFrom.{pairs_from}
use Rattle.prolly_look_up.specs.Way.{IsOrdered}
use Rattle.prolly_entry.specs.Pair.{Pair}
use Rattle.prolly_entry.specs.Version.{version_byte}
use Rattle.prolly_entry.specs.declared.version.Version.{Version}
use Rattle.prolly_io.specs.Frame.{IsSmall}
use Rattle.prolly_range.specs.KeySet.{KeySet, pairs_wanted}
use Rattle.prolly_range.specs.KeySet.KeySet.{Range}
use Rattle.prolly_range.specs.FirstFault.{IsFirstSetFault}
use Rattle.prolly_range.specs.SetProof.{AreTaken, Due, IsSetProof, ShowsClash, pairs_there}
use Rattle.prolly_range.specs.SetProof.{root_due, set_file}
use Rattle.prolly_range.specs.Start.{IsSetStartFault}
use Rattle.prolly_range.specs.Verifier.{IsProofFault}
use Rattle.prolly_range.specs.declared.fault.SetFault.{SetFault}
use Rattle.prolly_range.specs.declared.fault.SetFault.TheVariants as sets
use Rattle.prolly_root.specs.ChunkFile.{ChunkFile}
use Rattle.prolly_root.specs.declared.root_fault.RootFault.{RootFault}
use Rattle.prolly_root.specs.declared.proof.fault.ProofFault.{ProofFault}
use Rattle.prolly_tree.specs.Events.{greatest_count}
use Rattle.prolly_c.specs.Cursor.{IsAt, first_place}
use Rattle.prolly_c.specs.Proofs.{status_of_proof, status_of_root}
use Rattle.prolly_c.specs.Runs.{AreRuns, runs_in}
use Rattle.prolly_c.specs.declared.run.Run.{Run}

-- The end of a range, where it is bounded.
abbrev pub bound_of : List ℕ → Bool → Option (List ℕ)
bound_of to bounded = if bounded then Some to else None

-- The keys that are not less than the one, and, where the range is bounded, less than the other.
abbrev pub range_of : List ℕ → List ℕ → Bool → KeySet
range_of from to bounded = Range from (bound_of to bounded)

-- ---- what is proved

-- The bytes are a proof of what the tree of this version and root has at the keys of the set.
pub record IsSomeRangeProof (version : Version) (root : List ℕ) (set : KeySet) (bytes : List ℕ)
    : Type 0 where
  pub pairs : List Pair
  pub proof : IsSetProof version root set bytes pairs

-- So they are, and the version is told by its number.
pub record ProvesRange (version : ℕ) (root : List ℕ) (set : KeySet) (bytes : List ℕ) : Type 0 where
  pub format : Version
  pub format_is : version_byte format ≡ version
  pub proves : IsSomeRangeProof format root set bytes

-- Such a proof has so many bytes.
pub record HasRangeProof (version : ℕ) (root : List ℕ) (set : KeySet) (count : ℕ) : Type 0 where
  pub bytes : List ℕ
  pub proves : ProvesRange version root set bytes
  pub many : count ≡ length bytes

-- The status is that of the first fault of the file for the proof of such a set, where the version
-- is the number of one, and this is the chunk that it names.
pub record TellsFirstOfRange (version : ℕ) (file : ChunkFile) (root : List ℕ) (set : KeySet)
    (status chunk : ℕ) : Type 0 where
  pub format : Version
  pub format_is : version_byte format ≡ version
  pub fault : RootFault
  pub first : IsFirstSetFault format file root set fault
  pub is : status_of_root fault ≡ (status, chunk)

-- The bytes are such a proof, and the runs hold the pairs that they show.
pub record ShowsRange (version : ℕ) (root : List ℕ) (set : KeySet) (bytes : List ℕ)
    (runs : List Run) : Type 0 where
  pub format : Version
  pub format_is : version_byte format ≡ version
  pub pairs : List Pair
  pub proof : IsSetProof format root set bytes pairs
  pub runs_are : AreRuns bytes 0 runs pairs

-- The pairs of the set that a chunk of a proof shows.
abbrev pub pairs_shown : Version → KeySet → List ℕ → List Pair
pairs_shown version set chunk = pairs_there set (kind_of version chunk)

-- How many runs the pairs have that the chunks of a proof show.
abbrev pub runs_shown : Version → KeySet → List (List ℕ) → ℕ
runs_shown version set chunks = runs_in (map (pairs_shown version set) chunks)

-- The bytes are a proof, and the pairs that it shows have so many runs.
pub record HasRuns (version : ℕ) (root : List ℕ) (set : KeySet) (bytes : List ℕ) (count : ℕ)
    : Type 0 where
  pub format : Version
  pub format_is : version_byte format ≡ version
  pub pairs : List Pair
  pub proof : IsSetProof format root set bytes pairs
  pub many : count ≡ runs_shown format set proof.chunks

-- They are a proof, and so many runs hold the pairs that it shows, where there is room for them.
pub record HasShown (version : Version) (root : List ℕ) (set : KeySet) (bytes : List ℕ)
    (out : List Run) (runs : ℕ) : Type 0 where
  pub pairs : List Pair
  pub proof : IsSetProof version root set bytes pairs
  pub runs_are : runs ≤ length out → AreRuns bytes 0 (take runs out) pairs
  pub many : runs ≡ runs_shown version set proof.chunks

-- The cursor before all pairs stands before those of the map whose keys are of the set, and before no
-- other; or else a chunk of the proof and a different one of the map's tree have one reference.
abbrev pub ScansOrClash : Version → ℕ → List Pair → KeySet → List ℕ → List Run → Type 0
ScansOrClash version bits m set bytes runs = IsAt bytes runs first_place (pairs_wanted set m)
    ⊎ ShowsClash version bytes (chunk_bytes version bits m)

-- ---- why bytes are no proof

-- Chunks of a proof were taken, and what is behind them is at fault. (The number of a chunk is told
-- as the greatest number of 64 bits where it is greater.)
pub record IsFaultBehind (version : Version) (root : List ℕ) (set : KeySet) (bytes : List ℕ)
    (fault : ProofFault) : Type 0 where
  pub chunks : List (List ℕ)
  pub pairs : List Pair
  pub due : List Due
  pub left : List ℕ
  pub small : AllByRecursion IsSmall chunks
  pub taken : AreTaken version (root_due root set ∷ []) chunks pairs due
  pub is : bytes ≡ set_file version chunks ++ left
  pub so : IsProofFault version due (min greatest_count (length chunks)) left fault

-- The bytes are no such proof, for this first fault; or memory was refused.
abbrev pub IsNoRangeProof : Version → List ℕ → KeySet → List ℕ → SetFault → Type 0
IsNoRangeProof version root set bytes sets.Memory = Unit {0}
IsNoRangeProof version root set bytes sets.Read = ⊥
IsNoRangeProof version root set bytes (sets.Proof fault) =
    (IsSetStartFault version bytes fault ⊎ IsFaultBehind version root set bytes fault)
    × (IsSomeRangeProof version root set bytes → ⊥)
IsNoRangeProof version root set bytes sets.Stopped = ⊥

-- The status of why there is no such proof, and the chunk that it names.
abbrev pub status_of_set : SetFault → ℕ × ℕ
status_of_set sets.Memory = (2, 0)
status_of_set sets.Read = (25, 0)
status_of_set (sets.Proof fault) = status_of_proof fault
status_of_set sets.Stopped = (25, 0)

-- The bytes are no such proof, by this status, and the chunk that it names.
pub record IsRefusedRange (version : ℕ) (root : List ℕ) (set : KeySet) (bytes : List ℕ)
    (status chunk : ℕ) : Type 0 where
  pub format : Version
  pub format_is : version_byte format ≡ version
  pub fault : ProofFault
  pub of : IsNoRangeProof format root set bytes (sets.Proof fault)
  pub is : status_of_proof fault ≡ (status, chunk)

-- ---- what a chunk shows

-- The pairs from the end of a range on, where it has one.
abbrev pub pairs_behind : Option (List ℕ) → List Pair → List Pair
pairs_behind None pairs = []
pairs_behind (Some to) pairs = pairs_from to pairs

-- The chunk is one that can be read, and shows these pairs of the set.
pub record Shows (version : Version) (set : KeySet) (chunk : List ℕ) (pairs : List Pair) : Type 0
  where
    pub ordered : IsOrdered version chunk
    pub are : pairs ≡ pairs_there set (kind_of version chunk)
