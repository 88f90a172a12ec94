use Rattle.std.proofs.Common.{rules}
use Rattle.prolly_look_up.specs.lemmas.EntryLists.{some_spelled}
use Rattle.prolly_look_up.proofs.entries.Pairs.is_empty.Goals as goal

pub returns : goal.returns
returns c = search (rules, some_spelled)
