use Rattle.std.proofs.Common.{◌∙◌, ap}
use Rattle.prolly_tree.specs.RecordFile.{record_file}
use Rattle.prolly_look_up.specs.lemmas.EntryLists.{leaf_spelled}
use Rattle.prolly_look_up.proofs.entries.Pairs.spellings.Goals as goal

pub returns : goal.returns
returns c = leaf_spelled c.self.inside.entries.now c.self.invariant ∙ ap record_file c.self.view_is
