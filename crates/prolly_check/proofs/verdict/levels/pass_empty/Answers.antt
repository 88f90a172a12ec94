use Rattle.prolly_check.proofs.Followed.{empty_leaf}
use Rattle.prolly_check.proofs.verdict.levels.pass_empty.Goals as goal

pub returns-clause-passes : goal.returns-clause-passes
returns-clause-passes c =
    rw (empty_leaf c.args.cut c.in_ok-new.field-0 c.finish-leaf.result c.in_ok-new.ensures
    c.finish-leaf.ensures) at c.pass_on.ensures.passes
