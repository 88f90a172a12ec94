use Rattle.std.proofs.Common.{arith}
use Rattle.prolly_entry.specs.lemmas.Lists.{rest_is}
use Rattle.prolly_look_up.specs.lemmas.Chosen.{mark_behind}
use Rattle.prolly_look_up.proofs.sought.next_child.Goals as goal

pub returns-clause-mark : goal.returns-clause-mark
returns-clause-mark c = grind (arith, mark_behind, rest_is)
