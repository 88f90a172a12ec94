use Rattle.std.proofs.Common.{ap, ◌∙◌}
use Rattle.std.proofs.lemmas.Result.{err_from_is_err_and}
use Rattle.prolly_answer.specs.declared.answers.root_pairs.Portion.TheVariants.{Whole}
use Rattle.prolly_answer.proofs.RootSteps.{leaf_cut_off, leaf_spelled}
use Rattle.prolly_answer.proofs.answers.root_pairs.write_leaf.Goals as goal

pub returns-in_err-write_all-in-Records-clause-err :
    goal.returns-in_err-write_all-in-Records-clause-err
returns-in_err-write_all-in-Records-clause-err g c =
    let p = err_from_is_err_and c.from_residual.result c.from_residual.ensures.1 in
    rw (p.1, p.2) (leaf_cut_off _
    (c.in-Whole.is ∙ ap Whole c.in-Records.is) c.spellings.ensures
    c.in_err-write_all-in-Records.ensures.writes)

pub returns-in_ok-write_all-in-Records-clause-ok :
    goal.returns-in_ok-write_all-in-Records-clause-ok
returns-in_ok-write_all-in-Records-clause-ok g c = leaf_spelled _
    (c.in-Whole.is ∙ ap Whole c.in-Records.is) c.spellings.ensures
    c.in_ok-write_all-in-Records.ensures.writes
