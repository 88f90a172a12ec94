use Rattle.std.proofs.Common.{◌∙◌, ap, inl, take}
use Rattle.prolly_answer.specs.LookUps.{pair_lines}
use Rattle.prolly_answer.proofs.Answering.{looked_up}
use Rattle.prolly_answer.proofs.answers.scan.answer_scan_in.Goals as goal

pub returns-clause-shown : goal.returns-clause-shown
returns-clause-shown g c = λ honest. inl (
    looked_up _ _ _ _ (c.in-Ok.ensures.same honest) c.in-Ok.ensures.accepted c.in-Ok.ensures.within
    (λ failed. failed c.in-Ok.ensures.unfailed)
    (λ content is. record {
      status_is = c.of_lines.ensures.status_is;
      out_is = c.of_lines.ensures.out_is ∙ c.in_ok-lines.ensures ∙
          ap (λ pairs. pair_lines c.args.notation (take c.args.limit pairs))
          (c.leaves_from.ensures.are content is);
      err_is = c.of_lines.ensures.err_is;
    })
    )
