use Rattle.std.proofs.Common.{arith}
use Rattle.std.proofs.lemmas.Grind.{common_steps}
use Rattle.std.proofs.Common.{◌∙◌, ◌+◌, min, refl, ap}
use Rattle.prolly_tree.specs.Events.{greatest_count}
use Rattle.prolly_chunk.proofs.Keys.{child_added}
use Rattle.prolly_chunk.proofs.chunk.Chunk.add_child.Goals as goal

pub returns-clause-added : goal.returns-clause-added
returns-clause-added g c =
    child_added c.args.version c.args.event.now c.self.view_is refl (c.len-start.ensures ∙
    c.self.inside.bytes.ok.0)
    refl c.key-key.ensures.key c.requires c.count.ensures
    c.in_ok-append_child_as.ensures.ok
    (c.saturating_add-self-inside.ensures ∙ ap (λ n. min (c.self.inside.count + n) greatest_count)
    c.count-2.ensures)

pub slice_bounds-is_boundary-count : goal.slice_bounds-is_boundary-count
slice_bounds-is_boundary-count g c = grind (arith, common_steps)

pub slice_bounds-is_boundary-start : goal.slice_bounds-is_boundary-start
slice_bounds-is_boundary-start g c = grind (arith, common_steps)

pub invariant_of-self-2 : goal.invariant_of-self-2
invariant_of-self-2 g c = grind (arith, common_steps)

pub returns-clause-boundary : goal.returns-clause-boundary
returns-clause-boundary g c = grind (arith, common_steps)
