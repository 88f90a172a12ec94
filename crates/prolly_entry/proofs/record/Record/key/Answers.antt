use Rattle.std.proofs.Common.{rules}
use Rattle.prolly_entry.proofs.record.Record.key.Goals as goal

pub returns-in-Remove-clause-key : goal.returns-in-Remove-clause-key
returns-in-Remove-clause-key c = search rules
