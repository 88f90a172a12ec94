use Rattle.std.proofs.Common.{◌∙◌, true, false, Some, refl, sym, ap}
use Rattle.prolly_chunk.proofs.Leaves.{leaf_takes}
use Rattle.prolly_chunk.proofs.leaf.LeafLevel.push.Goals as goal

pub returns-then-branch : goal.returns-then-branch
returns-then-branch g c =
    let added = c.in_ok-add_pair.ensures in
    leaf_takes g.C.Cut.cut c.args.self.now c.self.inside.cut c.self.inside.leaf c.add_pair.new.self
    _ c.self.inside.has_pairs c.args.pair.now _ true
    c.self.view_is added.added (sym c.if-branch.true ∙ added.boundary) added.room
    (ap Some c.in_ok-take_event.ensures.event) c.in_ok-take_event.ensures.begun

pub returns : goal.returns
returns g c =
    let added = c.in_ok-add_pair.ensures in
    leaf_takes g.C.Cut.cut c.args.self.now c.self.inside.cut c.self.inside.leaf c.add_pair.new.self
    _ c.self.inside.has_pairs c.args.pair.now _ false
    c.self.view_is added.added (sym c.if-branch.false ∙ added.boundary) added.room refl refl
