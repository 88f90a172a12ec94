use Rattle.std.proofs.Common.{ap, ◌∙◌, ◌-◌, ◌∷◌, arith}
use Rattle.prolly_build.proofs.ForkSteps.{fork_here, fork_later}
use Rattle.prolly_build.proofs.run.lists.+fork_at.Goals as goal

pub returns-then-at-eq0-clause-items : goal.returns-then-at-eq0-clause-items
returns-then-at-eq0-clause-items g t c =
    fork_here _ _ _ _ _ _ _ (omega arith) c.in-Some.ensures.items
    (c.push_first-then-at-eq0.ensures.items ∙
    ap (λ xs. c.args.left ∷ xs) c.push_first.ensures.items)

pub returns-clause-items : goal.returns-clause-items
returns-clause-items g t c =
    fork_later _ (c.args.at - 1) _ _ _ _ _ _ _ _ (omega arith) c.in-Some.ensures.items
    c.push_first-2.ensures.items c.fork_at-one.ensures.items
