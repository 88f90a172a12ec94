-- What is answered to bytes that are no proof.
use Rattle.std.proofs.Common.{ℕ, inr, List, Option, Result, Ok, Err}
use Rattle.std.specs.Prelude.{IfOk}
use Rattle.prolly_entry.specs.declared.version.Version.{Version}
use Rattle.prolly_root.specs.ProofFault.{IsFault}
use Rattle.prolly_root.specs.ProofFile.{IsProof}
use Rattle.prolly_root.specs.declared.proof.fault.ProofFault.{ProofFault}
use Rattle.prolly_text.specs.declared.notation.Notation.{Notation}
use Rattle.prolly_fault.specs.Answers.{ShowsFault}
use Rattle.prolly_answer.specs.Input.{IsReadWhole}
use Rattle.prolly_answer.specs.Proofs.{IsVerify}
use Rattle.prolly_fault.specs.declared.answer.Answer.{Answer}
use Rattle.prolly_fault.specs.declared.fault.Fault.TheVariants.{Proof}

pub proof_refused : {E : Type 0} (notation : Notation) (version : Version)
    (root key bytes : List ℕ) (failed : Type 0) (fault : ProofFault) (result : Result Answer E) →
    IsReadWhole bytes failed →
    IsFault version root key bytes fault →
    ((value : Option (List ℕ)) → IsProof version root key bytes value → ⊥) →
    IfOk result (λ answer. ShowsFault answer (Proof fault)) →
    IfOk result (IsVerify notation version root key bytes failed)
proof_refused notation version root key bytes failed fault (Ok answer) whole is none shows =
    inr (record { fault = Proof fault; is = (whole, is, none); shows = shows })
proof_refused notation version root key bytes failed fault (Err e) whole is none shows = tt
