use Rattle.prolly_worker_tests.proofs.NumberLemmas.{number_sent}
use Rattle.prolly_worker_tests.proofs.links.numbers.send_numbers.Goals as goal

pub loop-number-preserved : goal.loop-number-preserved
loop-number-preserved g c =
    let sent = g.O.Out.sent in (
      cc (c.send.ensures.link, c.loop-number.invariant.0),
      number_sent (sent c.loop-number.out) (sent c.args.out) (sent c.send.new.self)
          c.loop-number.number c.loop-number.invariant.1 c.in_default.ensures.ok,
    )
