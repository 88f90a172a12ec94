use Rattle.prolly_tree.specs.Events.{inner_events}
use Rattle.prolly_stage.specs.lemmas.Steps.{gave_up}
use Rattle.prolly_stage.proofs.inner.inner_stage_as.Goals as goal

pub returns-in-Err-clause-sends : goal.returns-in-Err-clause-sends
returns-in-Err-clause-sends g c =
    let both = g.met.I.In.received_both c.args.input c.send_nodes.new.input c.give_up.result.input
    c.in-Err.ensures.follows c.give_up.ensures.follows in
    gave_up (inner_events c.args.level (g.C.Cut.cut c.args.cut) c.args.version) _ _ _ _ _ _ _ _
    c.in-Err.ensures.err both c.give_up.ensures.sent c.give_up.ensures.end
