use Rattle.std.proofs.Common.{rules}
use Rattle.prolly_entry.proofs.child.front_child.Goals as goal

pub returns-clause-some : goal.returns-clause-some
returns-clause-some c = search rules

pub returns-clause-none : goal.returns-clause-none
returns-clause-none c = search rules
