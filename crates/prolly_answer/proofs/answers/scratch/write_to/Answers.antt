use Rattle.std.proofs.Common.{rules}
use Rattle.prolly_answer.proofs.answers.scratch.write_to.Goals as goal

pub returns-in-Some-clause-ok : goal.returns-in-Some-clause-ok
returns-in-Some-clause-ok g c = search rules
