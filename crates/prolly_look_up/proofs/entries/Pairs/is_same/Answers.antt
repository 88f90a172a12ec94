use Rattle.std.proofs.Common.{arith}
use Rattle.std.proofs.lemmas.Slice.Eq.{slice_eq-Decides}
use Rattle.prolly_look_up.specs.lemmas.EntryLists.{entries_same}
use Rattle.prolly_look_up.proofs.entries.Pairs.is_same.Goals as goal

pub returns : goal.returns
returns c = grind (arith, slice_eq-Decides, entries_same)
