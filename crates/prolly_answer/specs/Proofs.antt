-- What the commands `prove` and `verify` answer.
use Rattle.std.specs.Prelude.{◌⊎◌, ℕ, List, Option, Result, Ok, Err}
use Rattle.prolly_look_up.specs.Content.{Content}
use Rattle.prolly_entry.specs.declared.version.Version.{Version}
use Rattle.prolly_root.specs.ProofFault.{IsFault}
use Rattle.prolly_root.specs.ProofFile.{IsProof, IsProofOf, IsSomeProof}
use Rattle.prolly_root.specs.declared.root_fault.RootFault.{RootFault}
use Rattle.prolly_text.specs.declared.notation.Notation.{Notation}
use Rattle.prolly_fault.specs.Answers.{ShowsDone, ShowsFault}
use Rattle.prolly_answer.specs.Input.{IsInputFault, IsReadWhole}
use Rattle.prolly_answer.specs.LookUps.{IsLookedUp, IsNoFile, ShowsValue}
use Rattle.prolly_answer.specs.Outputs.{IsRefused}
use Rattle.prolly_fault.specs.declared.answer.Answer.{Answer}
use Rattle.prolly_fault.specs.declared.fault.Fault.{Fault}
use Rattle.prolly_fault.specs.declared.fault.Fault.TheVariants.{Proof, Root, Write}

-- ---- proofs that are made

-- There is a proof of what the content's map has at the key, for who knows its root, of which this
-- holds.
pub record HasProof (key : List ℕ) (holds : List ℕ → Type 0) (content : Content) : Type 0 where
  pub proof : List ℕ
  pub proves : IsProofOf content key proof
  pub so : holds proof

-- The bytes were read whole and are the file of a map, of a proof of which this holds.
abbrev pub IsProvedOf : List ℕ → List ℕ → Type 0 → (List ℕ → Type 0) → Type 0
IsProvedOf key bytes failed holds = IsLookedUp bytes failed (HasProof key holds)

-- The answer of `prove`: the proof was written; writing it failed; or the bytes are refused. Of the
-- sink, `took_all` says that it took all of a proof, `took_part` that it failed after a part of
-- one, `untouched` that it is as it was.
abbrev pub IsProve : List ℕ → List ℕ → Type 0 → (List ℕ → Type 0) → (List ℕ → Type 0) → Type 0 →
    Answer → Type 0
IsProve key bytes failed took_all took_part untouched answer =
    (IsProvedOf key bytes failed took_all × ShowsDone answer)
    ⊎ (IsProvedOf key bytes failed took_part × ShowsFault answer Write)
    ⊎ (IsNoFile bytes failed answer × untouched)

-- ---- proofs that are made by the root

-- There is a proof of what the tree with this root has at the key, of which this holds.
pub record ProofByRoot (version : Version) (root key : List ℕ) (holds : List ℕ → Type 0) : Type 0
  where
    pub proof : List ℕ
    pub proves : IsSomeProof version root key proof
    pub so : holds proof

-- There is no proof, for a fault that there may be; the sink is as it was. `tells` says what is told
-- of the calls of the source.
abbrev pub IsUnproved : (RootFault → Type 0) → (Result (Unit {0}) RootFault → Type 0) → Type 0 →
    RootFault → Type 0
IsUnproved may tells untouched fault = may fault × tells (Err fault) × untouched

-- The answer of `prove` to who names the root: the proof was written; writing it failed; or there is
-- none. Of the sink, `took_all` says that it took all of a proof, `took_part` that it failed after a
-- part of one, `untouched` that it is as it was.
abbrev pub IsProveByRoot : (RootFault → Type 0) → (Result (Unit {0}) RootFault → Type 0) →
    Version → List ℕ → List ℕ → (List ℕ → Type 0) → (List ℕ → Type 0) → Type 0 → Answer → Type 0
IsProveByRoot may tells version root key took_all took_part untouched answer =
    (ProofByRoot version root key took_all × tells (Ok tt) × ShowsDone answer)
    ⊎ (ProofByRoot version root key took_part × tells (Ok tt) × ShowsFault answer Write)
    ⊎ ((fault : RootFault) × IsUnproved may tells untouched fault × ShowsFault answer (Root fault))

-- ---- proofs that are verified

-- The bytes were read whole and prove this value or none of the key, which is shown.
pub record IsProved (notation : Notation) (version : Version) (root key bytes : List ℕ)
    (failed : Type 0) (answer : Answer) : Type 0 where
  pub whole : IsReadWhole bytes failed
  pub value : Option (List ℕ)
  pub proves : IsProof version root key bytes value
  pub shows : ShowsValue notation answer value

-- The bytes were read whole and prove nothing of the key, for this first fault; or they can't be
-- read.
abbrev pub IsProofFault : Version → List ℕ → List ℕ → List ℕ → Type 0 → Fault → Type 0
IsProofFault version root key bytes failed (Proof fault) = IsReadWhole bytes failed ×
    IsFault version root key bytes fault ×
    ((value : Option (List ℕ)) → IsProof version root key bytes value → ⊥)
IsProofFault version root key bytes failed fault = IsInputFault bytes failed fault

-- The answer of `verify`: what the bytes prove is shown, or why they prove nothing.
abbrev pub IsVerify : Notation → Version → List ℕ → List ℕ → List ℕ → Type 0 → Answer → Type 0
IsVerify notation version root key bytes failed answer =
    IsProved notation version root key bytes failed answer
    ⊎ IsRefused (IsProofFault version root key bytes failed) answer
