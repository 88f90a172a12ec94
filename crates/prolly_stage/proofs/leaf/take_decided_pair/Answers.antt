use Rattle.std.proofs.lemmas.Result.{on_ok_weaker}
use Rattle.prolly_stage.proofs.leaf.take_decided_pair.Goals as goal

pub returns-clause-ok : goal.returns-clause-ok
returns-clause-ok g c = on_ok_weaker c.send_closed.result
    (λ sent known. (c.in_ok-closed.closed, c.in_ok-closed.ensures known, sent))
    c.send_closed.ensures.ok
