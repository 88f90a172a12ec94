use Rattle.std.proofs.Common.{rules}
use Rattle.prolly_stage.proofs.inner.inner_stage.Goals as goal

pub returns-clause-sends : goal.returns-clause-sends
returns-clause-sends g c = search rules
