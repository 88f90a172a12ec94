use Rattle.prolly_chunk.proofs.Leaves.{leaf_begins}
use Rattle.prolly_chunk.proofs.leaf.LeafLevel.new.Goals as goal

pub returns : goal.returns
returns g c = leaf_begins g.C.Cut.cut c.args.cut _ c.in_ok-leaf.ensures
