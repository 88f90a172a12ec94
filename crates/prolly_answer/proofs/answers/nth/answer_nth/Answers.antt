use Rattle.std.proofs.Common.{rules}
use Rattle.prolly_answer.proofs.answers.nth.answer_nth.Goals as goal

pub returns-clause-shown : goal.returns-clause-shown
returns-clause-shown g c = search rules
