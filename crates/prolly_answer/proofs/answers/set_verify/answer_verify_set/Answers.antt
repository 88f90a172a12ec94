use Rattle.std.proofs.Common.{inr}
use Rattle.prolly_answer.proofs.Answering.{is_shown, is_unshown}
use Rattle.prolly_answer.proofs.answers.set_verify.answer_verify_set.Goals as goal

pub returns-in-Err-clause-ok : goal.returns-in-Err-clause-ok
returns-in-Err-clause-ok g c = is_shown _ c.in-Err.fault c.of_fault.result
    (λ answer shows. inr (c.in-Err.fault, c.in-Err.ensures.ended, c.in-Err.ensures.reads, shows))
    c.of_fault.ensures

pub returns-in-Err-clause-err : goal.returns-in-Err-clause-err
returns-in-Err-clause-err g c = is_unshown _ c.of_fault.result
    (c.in-Err.fault, c.in-Err.ensures.ended, c.in-Err.ensures.reads)
