use Rattle.std.proofs.Common.{rules}
use Rattle.prolly_entry.proofs.pair.key_rises.Goals as goal

pub returns-in-Some : goal.returns-in-Some
returns-in-Some c = search rules
