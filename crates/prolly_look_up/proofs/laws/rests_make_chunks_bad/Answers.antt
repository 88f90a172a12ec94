use Rattle.prolly_look_up.specs.lemmas.EntryLists.{no_leaf, no_node}
use Rattle.prolly_look_up.proofs.laws.rests_make_chunks_bad.Goals as goal

pub returns : goal.returns
returns c = record { leaves = no_leaf; nodes = no_node }
