use Rattle.std.proofs.Common.{ap, ◌∙◌}
use Rattle.prolly_answer.specs.Diff.{status_of}
use Rattle.prolly_answer.proofs.answers.diff.answer_of.Goals as goal

pub returns : goal.returns
returns c = λ old new records is is' counted. record {
  status_is = c.status_of.ensures ∙
      ap status_of (c.are_some.ensures old.pairs records counted);
  out_is = c.in_ok-shown_of.ensures old new records is is' counted;
  err_is = c.new.ensures.items;
}
