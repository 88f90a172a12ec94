use Rattle.std.proofs.Common.{rules}
use Rattle.prolly_entry.proofs.front.FrontRecord.as_pair.Goals as goal

pub returns-in-Remove : goal.returns-in-Remove
returns-in-Remove c = search rules
