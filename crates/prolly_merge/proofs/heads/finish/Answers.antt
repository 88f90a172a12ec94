use Rattle.std.proofs.Common.{rules}
use Rattle.prolly_merge.proofs.heads.finish.Goals as goal

pub returns-in_default : goal.returns-in_default
returns-in_default g c = search rules
