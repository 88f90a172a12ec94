use Rattle.std.proofs.Common.{◌≡◌, sym, subst}
use Rattle.prolly_build.specs.RunResult.{HandsOn}
use Rattle.prolly_build.proofs.run.scoped.run_scoped.Goals as goal

pub returns-clause-hands_on : goal.returns-clause-hands_on
returns-clause-hands_on g c =
    let back = c.sink-1.given.1 (sym c.scoped-ran.ensures.1.1.1.1) in
    subst (λ (w : g.row.W.Denot). HandsOn c.args.lent.now.config c.args.links.last.receiver
    (g.W.Sink.seen c.args.sink.now) (g.W.Sink.seen w) (w ≡ c.args.sink.now) c.scoped-ran.result.0
    (λ ran. ran.base.wrote)) (sym back) c.scoped-ran.ensures.1.1.0
