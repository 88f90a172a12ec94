use Rattle.std.proofs.Common.{rules}
use Rattle.prolly_merge.proofs.heads.receive.Goals as goal

pub returns-in-Lost-clause-held : goal.returns-in-Lost-clause-held
returns-in-Lost-clause-held g c = search rules
