-- What a proof says, and why bytes are none. (This project's rules.)
use Rattle.std.specs.Prelude.{◌≡◌, ◌≢◌, ℕ, List, Option, length}
use Rattle.prolly_entry.specs.Version.{version_byte}
use Rattle.prolly_entry.specs.declared.version.Version.{Version}
use Rattle.prolly_root.specs.ProofFault.{IsFault}
use Rattle.prolly_root.specs.ProofFile.{IsProof, IsSomeProof}
use Rattle.prolly_root.specs.declared.proof.fault.ProofFault.{ProofFault}
use Rattle.prolly_root.specs.declared.proof.fault.ProofFault.TheVariants as faults
use Rattle.prolly_look_up.specs.Sought.Sought.{Key}
use Rattle.prolly_root.specs.ChunkFile.{ChunkFile}
use Rattle.prolly_root.specs.LookUpFault.{IsFirstFault}
use Rattle.prolly_root.specs.declared.root_fault.RootFault.{RootFault}
use Rattle.prolly_root.specs.declared.root_fault.RootFault.TheVariants as rooted

-- The bytes are a proof, for the root of a tree of this version, that the key has this value or none.
pub record SaysOf (version : ℕ) (root key proof : List ℕ) (value : Option (List ℕ)) : Type 0 where
  pub format : Version
  pub format_is : version_byte format ≡ version
  pub proves : IsProof format root key proof value

-- The status of a fault of a proof, and the chunk that it names.
abbrev pub status_of_proof : ProofFault → ℕ × ℕ
status_of_proof faults.Header = (48, 0)
status_of_proof faults.Version = (49, 0)
status_of_proof faults.Truncated = (50, 0)
status_of_proof (faults.Frame chunk) = (51, chunk)
status_of_proof (faults.Reference chunk) = (52, chunk)
status_of_proof (faults.Chunk chunk) = (53, chunk)
status_of_proof (faults.KeysOutOfOrder chunk) = (54, chunk)
status_of_proof (faults.Level chunk) = (55, chunk)
status_of_proof faults.Trailing = (56, 0)

-- The bytes are no such proof, by this fault.
pub record IsRefusedProof (version : ℕ) (root key proof : List ℕ) (status chunk : ℕ) : Type 0 where
  pub format : Version
  pub format_is : version_byte format ≡ version
  pub fault : ProofFault
  pub of : IsFault format root key proof fault
  pub is : status_of_proof fault ≡ (status, chunk)

-- The bytes are a proof of what the tree of this version and root has at the key.
pub record ProvesSome (version : ℕ) (root key proof : List ℕ) : Type 0 where
  pub format : Version
  pub format_is : version_byte format ≡ version
  pub proves : IsSomeProof format root key proof

-- Such a proof has so many bytes.
pub record HasProof (version : ℕ) (root key : List ℕ) (count : ℕ) : Type 0 where
  pub bytes : List ℕ
  pub proves : ProvesSome version root key bytes
  pub many : count ≡ length bytes

-- The status of why a file gives no proof, and the chunk that it names.
abbrev pub status_of_root : RootFault → ℕ × ℕ
status_of_root rooted.Memory = (2, 0)
status_of_root rooted.Truncated = (16, 0)
status_of_root rooted.Header = (17, 0)
status_of_root (rooted.Frame chunk) = (18, chunk)
status_of_root rooted.Trailing = (19, 0)
status_of_root (rooted.Chunk chunk) = (20, chunk)
status_of_root (rooted.KeysOutOfOrder chunk) = (21, chunk)
status_of_root rooted.Version = (64, 0)
status_of_root rooted.Missing = (65, 0)
status_of_root (rooted.Reference chunk) = (66, chunk)
status_of_root (rooted.Level chunk) = (67, chunk)
status_of_root rooted.Read = (25, 0)

-- The status is that of some fault of a file but a failed read, and this is the chunk that it names.
pub record TellsFault (status chunk : ℕ) : Type 0 where
  pub fault : RootFault
  pub unread : fault ≢ rooted.Read
  pub is : status_of_root fault ≡ (status, chunk)

-- The status is that of the first fault of the file for a look-up of this key, where the version is
-- the number of one, and this is the chunk that it names.
pub record TellsFirstFault (version : ℕ) (file : ChunkFile) (root key : List ℕ) (status chunk : ℕ)
    : Type 0 where
  pub format : Version
  pub format_is : version_byte format ≡ version
  pub fault : RootFault
  pub first : IsFirstFault format file root (Key key) fault
  pub is : status_of_root fault ≡ (status, chunk)
