use Rattle.std.proofs.Common.{◌∙◌, true, false, Some, refl, sym, ap}
use Rattle.prolly_tree.specs.Tree.{pair_is_boundary}
use Rattle.prolly_chunk.proofs.Leaves.{leaf_takes}
use Rattle.prolly_chunk.proofs.leaf.LeafLevel.push_decided.Goals as goal

pub returns-then-is_boundary : goal.returns-then-is_boundary
returns-then-is_boundary g c known =
    let decided = ap (λ l. pair_is_boundary (g.C.Cut.cut l.cut) c.args.pair.now) c.self.view_is
    ∙ known in
    let added = c.in_ok-append.ensures in
    leaf_takes g.C.Cut.cut c.args.self.now c.self.inside.cut c.self.inside.leaf c.append.new.self
    _ c.self.inside.has_pairs c.args.pair.now _ true
    c.self.view_is added.added (sym c.if-is_boundary.true ∙ sym decided) added.room
    (ap Some c.in_ok-take_event.ensures.event) c.in_ok-take_event.ensures.begun

pub returns : goal.returns
returns g c known =
    let decided = ap (λ l. pair_is_boundary (g.C.Cut.cut l.cut) c.args.pair.now) c.self.view_is
    ∙ known in
    let added = c.in_ok-append.ensures in
    leaf_takes g.C.Cut.cut c.args.self.now c.self.inside.cut c.self.inside.leaf c.append.new.self
    _ c.self.inside.has_pairs c.args.pair.now _ false
    c.self.view_is added.added (sym c.if-is_boundary.false ∙ sym decided) added.room refl refl
