use Rattle.std.proofs.Common.{◌≡◌, ◌-◌, ◌&&◌, ◌∙◌, true, false, nat_le, length, Some, refl, sym, ap}
use Rattle.std.proofs.Common.{rules}
use Rattle.prolly_tree.specs.Events.{event_is_boundary}
use Rattle.prolly_chunk.specs.NodeLevel.{NodeState}
use Rattle.prolly_chunk.proofs.Nodes.{node_takes}
use Rattle.prolly_chunk.proofs.node.NodeLevel.add.Goals as goal
use Rattle.prolly_chunk.proofs.node.NodeLevel.add.Goals.{then-is_first-via-then-is_first}
use Rattle.prolly_chunk.proofs.node.NodeLevel.add.Goals.{then-is_first-via-else-is_first+then-not-is_boundary}

pub returns-then-is_first : goal.returns-then-is_first
returns-then-is_first g c =
    let old = c.self.inside in
    let added = c.in_ok-is_boundary.ensures in
    let is_last : false ≡ (nat_le 2 (length old.node.bytes) && event_is_boundary
    (g.C.Cut.cut old.cut) old.version c.args.event.now) =
    elim c.then-is_first.branch [
      | then-is_first-via-then-is_first w ↦ search rules
      | then-is_first-via-else-is_first+then-not-is_boundary w ↦ search rules
    ] in
    node_takes g.C.Cut.cut c.args.self.now old.cut old.version old.node c.add_child.new.self _
    old.received _ c.args.event.now _ false
    c.self.view_is c.one_more-self-inside.ensures c.self.invariant
    (c.requires.below ∙ ap (λ (s : NodeState g.row.C.Denot). s.node.level - 1)
    (sym c.self.view_is))
    added.added is_last refl refl

pub returns : goal.returns
returns g c =
    let old = c.self.inside in
    let added = c.in_ok-is_boundary.ensures in
    let is_last : true ≡ (nat_le 2 (length old.node.bytes) && event_is_boundary
    (g.C.Cut.cut old.cut) old.version c.args.event.now) = search rules in
    node_takes g.C.Cut.cut c.args.self.now old.cut old.version old.node c.add_child.new.self _
    old.received _ c.args.event.now _ true
    c.self.view_is c.one_more-self-inside.ensures c.self.invariant
    (c.requires.below ∙ ap (λ (s : NodeState g.row.C.Denot). s.node.level - 1)
    (sym c.self.view_is))
    added.added is_last (ap Some c.in_ok-take_event.ensures.event) c.in_ok-take_event.ensures.begun
