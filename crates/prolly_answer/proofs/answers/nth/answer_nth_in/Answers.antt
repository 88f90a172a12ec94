use Rattle.std.proofs.Common.{inl}
use Rattle.std.proofs.lemmas.Result.{IfOk-weaker}
use Rattle.prolly_answer.proofs.Answering.{looked_up}
use Rattle.prolly_answer.proofs.answers.nth.answer_nth_in.Goals as goal

pub returns-clause-shown : goal.returns-clause-shown
returns-clause-shown g c = λ honest. IfOk-weaker c.nth_shown.result _ _
    (λ answer shown. inl (
    looked_up _ _ _ _ (c.in-Ok.ensures.same honest) c.in-Ok.ensures.accepted
    c.in-Ok.ensures.within (λ failed. failed c.in-Ok.ensures.unfailed) shown
    ))
    (c.nth_shown.ensures _ _ c.nth.ensures.found c.nth.ensures.uncounted)
