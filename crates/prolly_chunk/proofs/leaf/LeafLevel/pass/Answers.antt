use Rattle.std.proofs.Common.{sym, ◌∙◌}
use Rattle.prolly_chunk.proofs.Leaves.{leaf_passes}
use Rattle.prolly_chunk.proofs.leaf.LeafLevel.pass.Goals as goal

pub returns-clause-passed : goal.returns-clause-passed
returns-clause-passed g c = λ _. leaf_passes g.C.Cut.cut c.args.self.now c.self.inside.cut
    c.self.inside.leaf c.self.inside.has_pairs c.self.view_is
    (sym c.has_entries.ensures ∙ c.if-has_entries.false)
