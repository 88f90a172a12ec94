use Rattle.std.proofs.Common.{◌-◌, ◌∙◌, sym, ap}
use Rattle.prolly_chunk.specs.NodeLevel.{NodeState}
use Rattle.prolly_chunk.specs.lemmas.{node_passes}
use Rattle.prolly_chunk.proofs.node.NodeLevel.push_known.Goals as goal

pub returns-then-level : goal.returns-then-level
returns-then-level g c =
    node_passes g.C.Cut.cut c.args.self.now c.self.inside.node c.args.event.now
    (ap (λ (s : NodeState g.row.C.Denot). s.node) c.self.view_is) c.self.invariant
    (λ same. c.if-level.true (c.level.ensures ∙ same ∙ ap (λ n. n - 1) (sym c.level-2.ensures)))
