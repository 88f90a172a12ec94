use Rattle.std.proofs.Common.{rules}
use Rattle.prolly_stage.proofs.staged.give_up.Goals as goal

pub returns-clause-ended : goal.returns-clause-ended
returns-clause-ended g c = search rules
