use Rattle.std.proofs.Common.{rules}
use Rattle.prolly_look_up.specs.lemmas.MapTree.{child_is, root_is, top_is_read}
use Rattle.prolly_look_up.proofs.laws.tops_are_read.Goals as goal

pub returns : goal.returns
returns c = search (rules, root_is, child_is, top_is_read)
