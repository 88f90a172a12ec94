use Rattle.std.proofs.Common.{rules, refl}
use Rattle.prolly_answer.proofs.Answering.{short_answer, short_refused}
use Rattle.prolly_answer.proofs.answers.scratch.answer_scratch.Goals as goal

pub returns-clause-ok : goal.returns-clause-ok
returns-clause-ok g c = λ honest. short_answer _ _ _ _ _ c.of_fault-in-Err-write_to.result (record {
  file = c.in-Ok.tree.file.items;
  line = _;
  made = record { root = _; makes = c.in-Ok.ensures.ok honest; line_is = refl };
  is_written = search rules;
}) (search rules)

pub returns-clause-err : goal.returns-clause-err
returns-clause-err g c = λ honest. short_refused _ _ _ c.of_fault-in-Err-write_to.result (record {
  file = c.in-Ok.tree.file.items;
  line = _;
  made = record { root = _; makes = c.in-Ok.ensures.ok honest; line_is = refl };
  is_written = search rules;
})
