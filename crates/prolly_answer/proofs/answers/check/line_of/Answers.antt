use Rattle.std.proofs.Common.{rules}
use Rattle.prolly_answer.proofs.answers.check.line_of.Goals as goal

pub returns : goal.returns
returns c = search rules
