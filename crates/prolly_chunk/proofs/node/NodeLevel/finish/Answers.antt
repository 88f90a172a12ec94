use Rattle.std.proofs.Common.{◌≡◌, ◌&&◌, true, false, nat_le, length, Some, refl, ap, rules}
use Rattle.prolly_chunk.specs.NodeLevel.{is_several}
use Rattle.prolly_chunk.proofs.Nodes.{node_ends}
use Rattle.prolly_chunk.proofs.node.NodeLevel.finish.Goals as goal
use Rattle.prolly_chunk.proofs.node.NodeLevel.finish.Goals.{else-is_several-via-then-is_several+else-has_entries}
use Rattle.prolly_chunk.proofs.node.NodeLevel.finish.Goals.{else-is_several-via-else-is_several}

pub returns-then-has_entries : goal.returns-then-has_entries
returns-then-has_entries g c =
    let old = c.self.inside in
    let is_left : true ≡ (is_several old.received && nat_le 2 (length old.node.bytes)) =
    search rules in
    node_ends g.C.Cut.cut c.args.self old.cut old.version old.node old.received _ true
    c.self.view_is c.self.invariant is_left (ap Some c.of.ensures)

pub returns : goal.returns
returns g c =
    let old = c.self.inside in
    let is_left : false ≡ (is_several old.received && nat_le 2 (length old.node.bytes)) =
    elim c.else-is_several.branch [
      | else-is_several-via-then-is_several+else-has_entries w ↦ search rules
      | else-is_several-via-else-is_several w ↦ search rules
    ] in
    node_ends g.C.Cut.cut c.args.self old.cut old.version old.node old.received _ false
    c.self.view_is c.self.invariant is_left refl
