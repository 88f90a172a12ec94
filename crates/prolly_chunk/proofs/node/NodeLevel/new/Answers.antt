use Rattle.prolly_chunk.proofs.Nodes.{node_begins}
use Rattle.prolly_chunk.proofs.node.NodeLevel.new.Goals as goal

pub returns : goal.returns
returns g c = node_begins g.C.Cut.cut c.args.cut c.args.version c.args.level _ c.in_ok-node.ensures
