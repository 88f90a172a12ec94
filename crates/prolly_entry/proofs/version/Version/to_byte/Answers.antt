use Rattle.std.proofs.Common.{rules}
use Rattle.prolly_entry.proofs.version.Version.to_byte.Goals as goal

pub returns-in-Two : goal.returns-in-Two
returns-in-Two c = search rules
