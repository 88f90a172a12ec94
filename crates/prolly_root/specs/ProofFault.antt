-- What is wrong with bytes that are no proof: the first fault.
use Rattle.std.specs.Prelude.{◌≡◌, ℕ, ◌⊎◌, true, List, [], ◌∷◌, ◌++◌, length, Option, Some, None}
use Rattle.std.specs.List.{AllByRecursion}
use Rattle.prolly_look_up.specs.Step.{IsFlawedChunk}
use Rattle.prolly_look_up.specs.Sought.{Sought}
use Rattle.prolly_look_up.specs.Sought.Sought.{Key}
use Rattle.prolly_look_up.specs.Way.{Lead, LevelsFall, level_of}
use Rattle.prolly_look_up.specs.declared.step.ChunkFlaw.{ChunkFlaw}
use Rattle.prolly_look_up.specs.declared.step.ChunkFlaw.TheVariants as flaws
use Rattle.prolly_entry.specs.declared.version.Version.{Version}
use Rattle.prolly_io.specs.Frame.{framed, has_no_frame, IsSmall}
use Rattle.prolly_root.specs.ProofFile.{IsProof, proof_file, proof_start}
use Rattle.prolly_root.specs.declared.proof.fault.ProofFault.{ProofFault}
use Rattle.prolly_root.specs.declared.proof.fault.ProofFault.TheVariants as faults

-- ---- the start

-- The bytes begin with these.
pub record IsStartOf (start bytes : List ℕ) : Type 0 where
  pub rest : List ℕ
  pub is : bytes ≡ start ++ rest

-- The bytes are a part of these, and end before they do.
pub record EndsWithin (start bytes : List ℕ) : Type 0 where
  pub byte : ℕ
  pub more : List ℕ
  pub is : start ≡ bytes ++ byte ∷ more

-- The bytes begin as a proof over chunks of another version.
pub record BeginsAsOther (version : Version) (bytes : List ℕ) : Type 0 where
  pub other : Version
  pub differs : other ≡ version → ⊥
  pub begins : IsStartOf (proof_start other) bytes

-- The bytes begin as no proof, and do not end within what a proof begins with.
pub record BeginsAsNone (version : Version) (bytes : List ℕ) : Type 0 where
  pub whole : EndsWithin (proof_start version) bytes → ⊥
  pub none : (any : Version) → IsStartOf (proof_start any) bytes → ⊥

-- What is wrong with the start of a proof over chunks of the version.
abbrev pub IsProofStartFault : Version → List ℕ → ProofFault → Type 0
IsProofStartFault version bytes faults.Header = BeginsAsNone version bytes
IsProofStartFault version bytes faults.Version = BeginsAsOther version bytes
IsProofStartFault version bytes faults.Truncated = EndsWithin (proof_start version) bytes
IsProofStartFault version bytes fault = ⊥

-- ---- a frame

-- What is wrong with bytes that no whole frame begins, in the place of the chunk of this number:
-- they end within a frame, or begin with a byte that begins none.
abbrev pub IsFrameFault : ℕ → List ℕ → ProofFault → Type 0
IsFrameFault number rest faults.Truncated = ((rest ≡ []) ⊎ IsStartOf (0x43 ∷ []) rest) ×
    (has_no_frame rest ≡ true)
IsFrameFault number rest (faults.Frame n) = (n ≡ number) × (rest ≡ [] → ⊥) ×
    (IsStartOf (0x43 ∷ []) rest → ⊥)
IsFrameFault number rest fault = ⊥

-- ---- a chunk

-- The level of the last chunk, if there is one.
abbrev pub last_level : List (List ℕ) → Option ℕ
last_level [] = None
last_level (chunk ∷ []) = Some (level_of chunk)
last_level (chunk ∷ below ∷ chunks) = last_level (below ∷ chunks)

-- The fault that the chunk of this number has where it is flawed so.
abbrev pub proof_fault : ℕ → ChunkFlaw → ProofFault
proof_fault number flaws.Reference = faults.Reference number
proof_fault number flaws.Entries = faults.Chunk number
proof_fault number flaws.Order = faults.KeysOutOfOrder number
proof_fault number flaws.Level = faults.Level number

-- What is wrong with the chunk of this number, where one with this reference is due below this
-- level.
pub record IsChunkFault (version : Version) (due : List ℕ) (above : Option ℕ) (chunk : List ℕ)
    (number : ℕ) (fault : ProofFault) : Type 0 where
  pub flaw : ChunkFlaw
  pub is : fault ≡ proof_fault number flaw
  pub so : IsFlawedChunk version due above chunk flaw

-- ---- all

-- The bytes begin with these chunks of a proof, which lead a look-up of the key from the root to
-- the chunk with this reference; and then there is this rest.
pub record HasPassed (version : Version) (root key bytes : List ℕ) (passed : List (List ℕ))
    (due rest : List ℕ) : Type 0 where
  pub there : Sought
  pub small : AllByRecursion IsSmall passed
  pub is : bytes ≡ proof_file version passed ++ rest
  pub lead : Lead version (Key key) root passed due there
  pub down : LevelsFall passed

-- No frame begins where the next chunk is due.
pub record EndsEarly (version : Version) (root key bytes : List ℕ) (fault : ProofFault)
    : Type 0 where
  pub passed : List (List ℕ)
  pub due : List ℕ
  pub rest : List ℕ
  pub has : HasPassed version root key bytes passed due rest
  pub is : IsFrameFault (length passed) rest fault

-- The chunk there is not the one that is due, or none that a tree may have there.
pub record IsWrongChunk (version : Version) (root key bytes : List ℕ) (fault : ProofFault) : Type 0
  where
    pub passed : List (List ℕ)
    pub due : List ℕ
    pub chunk : List ℕ
    pub rest : List ℕ
    pub has : HasPassed version root key bytes passed due (framed chunk ++ rest)
    pub small : IsSmall chunk
    pub is : IsChunkFault version due (last_level passed) chunk (length passed) fault

-- The bytes go on behind a proof.
pub record HasMore (version : Version) (root key bytes : List ℕ) : Type 0 where
  pub proof : List ℕ
  pub value : Option (List ℕ)
  pub byte : ℕ
  pub more : List ℕ
  pub is : bytes ≡ proof ++ byte ∷ more
  pub proves : IsProof version root key proof value

-- What is wrong first with bytes that are no proof.
abbrev pub IsFault : Version → List ℕ → List ℕ → List ℕ → ProofFault → Type 0
IsFault version root key bytes fault = IsProofStartFault version bytes fault
    ⊎ EndsEarly version root key bytes fault
    ⊎ IsWrongChunk version root key bytes fault
    ⊎ ((fault ≡ faults.Trailing) × HasMore version root key bytes)
