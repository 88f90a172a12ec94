use Rattle.std.proofs.Common.{rules}
use Rattle.prolly_runs.proofs.built.line_of.Goals as goal

pub returns : goal.returns
returns c = search rules
