use Rattle.std.proofs.Common.{◌∙◌, ap}
use Rattle.prolly_tree.specs.Events.{leaf_events}
use Rattle.prolly_link.specs.Progress.{end_given}
use Rattle.prolly_link.specs.ListIn.{items_left, last_end}
use Rattle.prolly_link.specs.ListInLaws.{all_lost}
use Rattle.prolly_stage.specs.lemmas.Steps.{sends_of}
use Rattle.prolly_worker_tests.proofs.stages.lists.leaves_of.Goals as goal

pub returns : goal.returns
returns g c = λ version.
    let list = c.new.result in
    let after = c.leaf_stage-input.result.input in
    let all = all_lost list after c.leaf_stage-input.ensures.follows
    c.leaf_stage-input.ensures.ended in
    sends_of (leaf_events (g.C.Cut.cut c.args.cut) version) _ _ _ _ _ _ _ _
    (all.0 ∙ ap items_left c.new.ensures) (ap end_given all.1 ∙ ap last_end c.new.ensures)
    c.new-2.ensures
    (c.leaf_stage-input.ensures.sends version)
