use Rattle.std.proofs.Common.{rules}
use Rattle.prolly_entry.proofs.child.tail_length.Goals as goal

pub returns-in-Two : goal.returns-in-Two
returns-in-Two c = search rules
