use Rattle.std.proofs.Common.{inl}
use Rattle.std.proofs.lemmas.Result.{IfOk-weaker}
use Rattle.prolly_answer.proofs.answers.explain.answer_explain.Goals as goal

pub returns-in-Ok-clause-shown : goal.returns-in-Ok-clause-shown
returns-in-Ok-clause-shown g c = λ honest. IfOk-weaker c.reason.result _ _
    (λ answer shown. inl (record {
      unfailed = λ failed. failed c.in-Ok.ensures.unfailed;
      survey = c.in-Ok.survey;
      is = c.in-Ok.ensures.ok honest;
      shown = shown;
    })) c.reason.ensures
