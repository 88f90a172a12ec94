use Rattle.std.proofs.Common.{rules}
use Rattle.prolly_build.proofs.end.Halt.fault.Goals as goal

pub returns-in-NoThread : goal.returns-in-NoThread
returns-in-NoThread c = search rules
