use Rattle.prolly_worker_tests.proofs.stages.lists.two_stages.Goals as goal

pub returns : goal.returns
returns g c =
    c.stages_follow.ensures (g.C.Cut.cut c.args.cut) c.args.version 0 c.args.pairs.items c.args.last
    c.leaves_of-events.result.items.items c.leaves_of-events.result.last
    c.nodes_above.result.items.items c.nodes_above.result.last
    (c.leaves_of-events.ensures c.args.version) c.nodes_above.ensures
