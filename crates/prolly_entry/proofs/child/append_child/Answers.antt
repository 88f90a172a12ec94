use Rattle.std.proofs.Common.{rules}
use Rattle.prolly_entry.proofs.child.append_child.Goals as goal

pub returns-clause-ok : goal.returns-clause-ok
returns-clause-ok c = search rules
