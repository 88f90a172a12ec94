use Rattle.std.proofs.Common.{rules}
use Rattle.prolly_line.proofs.command.refusal.Goals as goal

pub returns-in_default-kind : goal.returns-in_default-kind
returns-in_default-kind c = search rules
