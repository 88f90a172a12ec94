use Rattle.std.proofs.Common.{rules}
use Rattle.prolly_entry.proofs.version.Version.of.Goals as goal

pub returns-in-2-clause-some : goal.returns-in-2-clause-some
returns-in-2-clause-some c = search rules
