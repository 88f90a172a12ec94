use Rattle.std.proofs.lemmas.Result.{on_ok_weaker}
use Rattle.prolly_check.specs.Follower.{ClosedPasses}
use Rattle.prolly_look_up.specs.HeldPairs.{bytes_in}
use Rattle.prolly_check.proofs.Followed.{one_above}
use Rattle.prolly_check.proofs.verdict.levels.+pass_on.Goals as goal

pub returns-clause-passes : goal.returns-clause-passes
returns-clause-passes t c = on_ok_weaker {P = ClosedPasses c.in-Some-split_first_mut.above.now
    c.pass_on.new.levels c.in_ok-closed.closed (bytes_in c.pass_one.new.due.items)
    (bytes_in c.pass_on.new.due.items)} c.pass_on.result
    (λ passes. rw (c.in-Some.is, c.in-Some-split_first_mut.ensures.cases.0)
    (one_above c.in-Some.event (bytes_in c.args.due.now.items) _ _ _ _ _ _
    c.in_ok-closed.ensures.takes (rw c.in_ok-closed.ensures.due at passes)))
    c.pass_on.ensures.passes
