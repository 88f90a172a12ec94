use Rattle.std.proofs.Common.{rules}
use Rattle.prolly_look_up.specs.lemmas.EntryLists.{no_pairs}
use Rattle.prolly_check.proofs.look_up.leaves.Leaves.new.Goals as goal

pub returns : goal.returns
returns c = search (rules, no_pairs)
