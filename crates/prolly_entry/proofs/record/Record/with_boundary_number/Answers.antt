use Rattle.std.proofs.Common.{rules}
use Rattle.prolly_entry.proofs.record.Record.with_boundary_number.Goals as goal

pub returns-in-Remove : goal.returns-in-Remove
returns-in-Remove c = search rules
