use Rattle.std.proofs.Common.{rules}
use Rattle.prolly_fault.proofs.answer.Answer.of_fault.Goals as goal

pub returns : goal.returns
returns c = search rules
