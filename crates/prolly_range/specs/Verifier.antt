-- Reading the proof of a set of keys, chunk by chunk.
use Rattle.std.specs.Prelude.{◌≡◌, ℕ, ◌⊎◌, Bool, true, List, [], ◌∷◌, ◌++◌, Option, Some, None}
use Rattle.std.specs.List.{AllByRecursion, flat_map}
use Rattle.prolly_entry.specs.Pair.{Pair}
use Rattle.prolly_entry.specs.declared.version.Version.{Version}
use Rattle.prolly_io.specs.Frame.{framed, IsSmall}
use Rattle.prolly_io.specs.declared.device.part_reader.ReadFault.{ReadFault}
use Rattle.prolly_io.specs.declared.device.part_reader.ReadFault.TheVariants as part
use Rattle.prolly_root.specs.ProofFault.{IsChunkFault, IsFrameFault}
use Rattle.prolly_root.specs.declared.proof.fault.ProofFault.{ProofFault}
use Rattle.prolly_root.specs.declared.proof.fault.ProofFault.TheVariants as proofs
use Rattle.prolly_range.specs.SetProof.{AreTaken, Due, Takes}
use Rattle.prolly_range.specs.Start.{IsSetStartFault}
use Rattle.prolly_range.specs.declared.fault.SetFault.{SetFault}
use Rattle.prolly_range.specs.declared.fault.SetFault.TheVariants.{Memory, Proof, Read, Stopped}

-- The fault of reading a part of a proof, as one of verifying it.
abbrev pub fault_of_read : ReadFault → SetFault
fault_of_read part.Memory = Memory
fault_of_read part.Read = Read

-- What a verifier keeps: the version of the chunks, those that are due, how many were taken, and
-- whether a call failed.
pub record VerifierView : Type 0 where
  pub version : Version
  pub due : List Due
  pub count : ℕ
  pub stopped : Bool

-- A chunk was taken that shows these pairs; of an honest source its frame was taken, and no more.
pub record TakesNext (version : Version) (old : List Due) (pairs : List Pair) (new : List Due)
    (honest : Bool) (before after : List ℕ) : Type 0 where
  pub chunk : List ℕ
  pub takes : Takes version old chunk pairs new
  pub small : IsSmall chunk
  pub read : honest ≡ true → before ≡ framed chunk ++ after

-- Nothing was due any more; and an honest source has nothing left.
pub record IsAtEnd (old new : List Due) (honest : Bool) (before : List ℕ) : Type 0 where
  pub none : old ≡ []
  pub still : new ≡ []
  pub over : honest ≡ true → before ≡ []

-- What a call came to: a chunk, or the end.
abbrev pub ComesTo : Version → List Due → Option (List Pair) → List Due → Bool → List ℕ → List ℕ →
    Type 0
ComesTo version old None new honest before after = IsAtEnd old new honest before
ComesTo version old (Some pairs) new honest before after =
    TakesNext version old pairs new honest before after

-- The next frame holds another chunk than the one that is due, or one that no tree has there.
pub record IsWrongChunk (version : Version) (due : Due) (number : ℕ) (left : List ℕ)
    (fault : ProofFault) : Type 0 where
  pub chunk : List ℕ
  pub rest : List ℕ
  pub small : IsSmall chunk
  pub is : left ≡ framed chunk ++ rest
  pub so : IsChunkFault version due.reference due.above chunk number fault

-- What is wrong with these bytes where so much is due, and so many chunks were taken.
abbrev pub IsProofFault : Version → List Due → ℕ → List ℕ → ProofFault → Type 0
IsProofFault version [] number left fault = (fault ≡ proofs.Trailing) × (left ≡ [] → ⊥)
IsProofFault version (due ∷ others) number left fault = IsFrameFault number left fault
    ⊎ IsWrongChunk version due number left fault

-- It is, unless memory was refused or a read failed.
abbrev pub IsNextFault : Version → List Due → ℕ → List ℕ → SetFault → Type 0
IsNextFault version due number left Memory = Unit {0}
IsNextFault version due number left Read = Unit {0}
IsNextFault version due number left (Proof fault) = IsProofFault version due number left fault
IsNextFault version due number left Stopped = ⊥

-- There is no fault but want of memory, or that a read failed.
abbrev pub MayFail : SetFault → Type 0
MayFail fault = (fault ≡ Memory) ⊎ (fault ≡ Read)

-- The bytes are the frames of the chunks that are taken until nothing is due.
pub record IsRestOf (version : Version) (due : List Due) (left : List ℕ) : Type 0 where
  pub chunks : List (List ℕ)
  pub pairs : List Pair
  pub small : AllByRecursion IsSmall chunks
  pub is : left ≡ flat_map framed chunks
  pub taken : AreTaken version due chunks pairs []

-- What is wrong with the start of these bytes, unless memory was refused or a read failed.
abbrev pub IsStartFault : Version → List ℕ → SetFault → Type 0
IsStartFault version left Memory = Unit {0}
IsStartFault version left Read = Unit {0}
IsStartFault version left (Proof fault) = IsSetStartFault version left fault
IsStartFault version left Stopped = ⊥
