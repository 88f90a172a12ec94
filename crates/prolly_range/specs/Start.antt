-- What is wrong with the start of bytes that are no proof of a set of keys.
use Rattle.std.specs.Prelude.{◌≡◌, ℕ, List}
use Rattle.prolly_entry.specs.declared.version.Version.{Version}
use Rattle.prolly_root.specs.ProofFault.{EndsWithin, IsStartOf}
use Rattle.prolly_root.specs.declared.proof.fault.ProofFault.{ProofFault}
use Rattle.prolly_root.specs.declared.proof.fault.ProofFault.TheVariants as faults
use Rattle.prolly_range.specs.SetProof.{set_start}

-- The bytes begin as such a proof over chunks of another version.
pub record BeginsAsOther (version : Version) (bytes : List ℕ) : Type 0 where
  pub other : Version
  pub differs : other ≡ version → ⊥
  pub begins : IsStartOf (set_start other) bytes

-- The bytes begin as no such proof, and do not end within what it begins with.
pub record BeginsAsNone (version : Version) (bytes : List ℕ) : Type 0 where
  pub whole : EndsWithin (set_start version) bytes → ⊥
  pub none : (any : Version) → IsStartOf (set_start any) bytes → ⊥

-- What is wrong with the start of a proof over chunks of the version.
abbrev pub IsSetStartFault : Version → List ℕ → ProofFault → Type 0
IsSetStartFault version bytes faults.Header = BeginsAsNone version bytes
IsSetStartFault version bytes faults.Version = BeginsAsOther version bytes
IsSetStartFault version bytes faults.Truncated = EndsWithin (set_start version) bytes
IsSetStartFault version bytes fault = ⊥
