use Rattle.std.proofs.Common.{◌≡◌, ◌||◌, true, false, not, nat_le, length, Some, refl, ap, rules}
use Rattle.prolly_chunk.proofs.Leaves.{leaf_ends}
use Rattle.prolly_chunk.proofs.leaf.LeafLevel.finish.Goals as goal
use Rattle.prolly_chunk.proofs.leaf.LeafLevel.finish.Goals.{then-not-self-via-then-not-self}
use Rattle.prolly_chunk.proofs.leaf.LeafLevel.finish.Goals.{then-not-self-via-else-not-self+then-has_entries}

pub returns-then-not-self : goal.returns-then-not-self
returns-then-not-self g c =
    let is_left : true ≡ (not c.self.inside.has_pairs || nat_le 2 (length c.self.inside.leaf.bytes))
    = elim c.then-not-self.branch [
      | then-not-self-via-then-not-self w ↦ search rules
      | then-not-self-via-else-not-self+then-has_entries w ↦ search rules
    ] in
    leaf_ends g.C.Cut.cut c.args.self c.self.inside.cut c.self.inside.leaf c.self.inside.has_pairs _
    true c.self.view_is is_left (ap Some c.of.ensures)

pub returns : goal.returns
returns g c =
    let is_left : false ≡ (not c.self.inside.has_pairs || nat_le 2
    (length c.self.inside.leaf.bytes)) = search rules in
    leaf_ends g.C.Cut.cut c.args.self c.self.inside.cut c.self.inside.leaf c.self.inside.has_pairs _
    false c.self.view_is is_left refl
