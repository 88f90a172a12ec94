use Rattle.std.proofs.Common.{◌++◌, sym, ◌∙◌, ap}
use Rattle.prolly_link.specs.Progress.{end_given}
use Rattle.prolly_entry.specs.lemmas.Lists.{nothing_came}
use Rattle.prolly_worker_tests.proofs.links.copies.copy_all.Goals as goal

pub returns-in-Err-clause-copied : goal.returns-in-Err-clause-copied
returns-in-Err-clause-copied g c = λ clean. absurd (clean c.close-out.ensures.end)

pub returns-in-End-clause-copied : goal.returns-in-End-clause-copied
returns-in-End-clause-copied g c = λ clean.
    let received = g.I.In.received in
    let both = g.met.I.In.received_both c.args.input c.loop.input c.recv.new.self
    c.loop.invariant.follows c.recv.ensures.follows in
    let all = nothing_came (received c.args.input c.loop.input)
    (received c.loop.input c.recv.new.self) (received c.args.input c.recv.new.self) both
    c.in-End.ensures.received in (
      c.close-out-in-End.ensures.sent ∙ c.loop.invariant.copied ∙
          ap (λ ys. g.O.Out.sent c.args.out ++ ys) (sym all),
      c.close-out-in-End.ensures.end ∙ sym (ap end_given c.in-End.ensures.progress),
    )

pub returns-in-Lost-clause-copied : goal.returns-in-Lost-clause-copied
returns-in-Lost-clause-copied g c = λ clean.
    let received = g.I.In.received in
    let both = g.met.I.In.received_both c.args.input c.loop.input c.recv.new.self
    c.loop.invariant.follows c.recv.ensures.follows in
    let all = nothing_came (received c.args.input c.loop.input)
    (received c.loop.input c.recv.new.self) (received c.args.input c.recv.new.self) both
    c.in-Lost.ensures.received in (
      c.close-out-in-Lost.ensures.sent ∙ c.loop.invariant.copied ∙
          ap (λ ys. g.O.Out.sent c.args.out ++ ys) (sym all),
      c.close-out-in-Lost.ensures.end ∙ sym (ap end_given c.in-Lost.ensures.progress),
    )
