use Rattle.std.proofs.Common.{rules}
use Rattle.prolly_build.proofs.run.writer.WriterState.begin.Goals as goal

pub returns-in-Ok : goal.returns-in-Ok
returns-in-Ok g c = search rules
