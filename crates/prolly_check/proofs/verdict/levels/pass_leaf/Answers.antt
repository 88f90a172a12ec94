use Rattle.std.proofs.Common.{◌∷◌, [], ap}
use Rattle.std.proofs.lemmas.Result.{on_ok_weaker}
use Rattle.prolly_check.specs.Follower.{ClosedPasses}
use Rattle.prolly_look_up.specs.HeldPairs.{bytes_in}
use Rattle.prolly_check.proofs.Followed.{one_above, passes_behind}
use Rattle.prolly_check.proofs.verdict.levels.pass_leaf.Goals as goal

pub returns-clause-passes : goal.returns-clause-passes
returns-clause-passes c = on_ok_weaker {P = ClosedPasses c.in-Some.above.now
    c.pass_on.new.levels c.in_ok-closed.closed (bytes_in c.args.due.now.items)
    (bytes_in c.pass_on.new.due.items)} c.pass_on.result
    (λ passes. rw (c.in-Some.ensures.cases.0)
    (one_above c.args.leaf.now [] _ _ _ _ _ _ c.in_ok-closed.ensures
    (passes_behind _ _ _ (c.args.leaf.now.bytes ∷ []) [] _
    (rw (ap bytes_in c.requires.none) at passes)))) c.pass_on.ensures.passes
