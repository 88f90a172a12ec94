use Rattle.std.proofs.Common.{inl}
use Rattle.std.proofs.lemmas.Result.{IfOk-weaker}
use Rattle.prolly_answer.proofs.answers.stat.whole_answer.Goals as goal

pub returns-in-Ok-survey-clause-shown : goal.returns-in-Ok-survey-clause-shown
returns-in-Ok-survey-clause-shown g c = rw c.if-is_chunk_file.false
    (λ honest. IfOk-weaker c.survey_answer.result _ _
    (λ answer shown. inl (record {
      unfailed = λ failed. failed c.in-Ok-survey.ensures.unfailed;
      survey = c.in-Ok-survey.survey;
      is = c.in-Ok-survey.ensures.ok honest;
      shown = shown;
    })) c.survey_answer.ensures)
