use Rattle.std.proofs.Common.{inl}
use Rattle.prolly_answer.proofs.Answering.{looked_up}
use Rattle.prolly_answer.proofs.answers.set_proof.answer_prove_set.Goals as goal

pub returns-in-Ok-prove_checked_set-clause-ok : goal.returns-in-Ok-prove_checked_set-clause-ok
returns-in-Ok-prove_checked_set-clause-ok g c = λ honest. inl (
  (
    looked_up _ _ _ _ (c.in-Ok.ensures.same honest) c.in-Ok.ensures.accepted
        c.in-Ok.ensures.within (λ failed. failed c.in-Ok.ensures.unfailed)
        c.in-Ok-prove_checked_set.ensures.proves,
    c.in-Ok-prove_checked_set.ensures.writes,
    c.in-Ok-prove_checked_set.ensures.settled,
  ),
  c.of_done.ensures,
)
