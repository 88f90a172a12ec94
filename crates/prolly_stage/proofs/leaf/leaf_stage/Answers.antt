use Rattle.prolly_tree.specs.Events.{leaf_events}
use Rattle.prolly_stage.specs.lemmas.Steps.{gave_up}
use Rattle.prolly_stage.proofs.leaf.leaf_stage.Goals as goal

pub returns-in-Err-clause-sends : goal.returns-in-Err-clause-sends
returns-in-Err-clause-sends g c = λ version.
    let both = g.met.I.In.received_both c.args.input c.send_leaves.new.input c.give_up.result.input
    c.in-Err.ensures.follows c.give_up.ensures.follows in
    gave_up (leaf_events (g.C.Cut.cut c.args.cut) version) _ _ _ _ _ _ _ _
    (c.in-Err.ensures.err version) both c.give_up.ensures.sent c.give_up.ensures.end
