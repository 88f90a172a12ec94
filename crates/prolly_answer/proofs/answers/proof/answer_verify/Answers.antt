use Rattle.std.proofs.Common.{ℕ, List, Option, ◌∙◌, subst}
use Rattle.prolly_root.specs.ProofFault.{IsFault}
use Rattle.prolly_root.specs.ProofFile.{IsProof}
use Rattle.prolly_answer.proofs.Verifying.{proof_refused}
use Rattle.prolly_answer.proofs.answers.proof.answer_verify.Goals as goal

pub returns-clause-shown : goal.returns-clause-shown
returns-clause-shown g c = λ honest.
    let same = c.deref.ensures.value ∙ c.in-Ok.ensures.whole honest in
    proof_refused c.args.notation c.args.version c.args.root.now.0 c.args.key.now _ _
    c.in-Err-verify.fault
    c.of_fault-in-Err-verify.result (c.in-Ok.ensures.read_whole honest)
    (subst (λ bytes. IsFault c.args.version c.args.root.now.0 c.args.key.now bytes
    c.in-Err-verify.fault) same c.in-Err-verify.ensures.fault)
    (subst (λ bytes. (value : Option (List ℕ)) →
    IsProof c.args.version c.args.root.now.0 c.args.key.now bytes value → ⊥) same
    c.in-Err-verify.ensures.refused) c.of_fault-in-Err-verify.ensures
