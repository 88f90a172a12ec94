use Rattle.std.proofs.Common.{sym, subst}
use Rattle.prolly_sort.specs.Told.{IsToldOf}
use Rattle.prolly_sort.proofs.Once.{apart_once, once_obeys}
use Rattle.prolly_sort.proofs.Telling.{told_by_run}
use Rattle.prolly_sort.proofs.key_rule.KeyRule.sort.Goals as goal

pub returns-in-Ok-clause-obeys : goal.returns-in-Ok-clause-obeys
returns-in-Ok-clause-obeys c = once_obeys c.args.self c.args.run.records
    (apart_once c.args.run.records c.in-Ok.ensures.apart)

pub returns-in-Err-clause-told : goal.returns-in-Err-clause-told
returns-in-Err-clause-told c = subst (IsToldOf c.args.self _) (sym c.fault_behind.ensures)
    (told_by_run c.args.self c.args.run.records c.args.before c.in-Err.fault c.in-Unique.is
    c.in-Err.ensures.doubled)
