use Rattle.std.proofs.Common.{◌∙◌}
use Rattle.prolly_entry.specs.lemmas.Lists.{nothing_came}
use Rattle.prolly_worker_tests.proofs.links.gather.gather.Goals as goal

pub returns-in-End-clause-got : goal.returns-in-End-clause-got
returns-in-End-clause-got g c =
    let received = g.I.In.received in
    let first = c.args.input.now in
    let both = g.met.I.In.received_both first c.loop.input c.recv.new.self c.loop.invariant.follows
    c.recv.ensures.follows in (
      nothing_came (received first c.loop.input) (received c.loop.input c.recv.new.self)
          (received first c.recv.new.self) both c.in-End.ensures.received ∙ c.loop.invariant.got,
      c.in-End.ensures.progress,
    )
