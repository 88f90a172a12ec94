use Rattle.std.proofs.Common.{sym, ◌∙◌}
use Rattle.std.proofs.lemmas.Bool.{false≢true}
use Rattle.std.proofs.lemmas.Result.{err_from_is_err_and}
use Rattle.prolly_root.specs.lemmas.FirstFaults.{not_opened, opened_told}
use Rattle.prolly_answer.proofs.RootFaultSteps.{none_refused}
use Rattle.prolly_answer.proofs.RootSteps.{flushed_told, nothing_sought, root_refused}
use Rattle.prolly_answer.proofs.answers.root_pairs.write_pairs.Goals as goal

pub returns-then-is_empty-clause-written : goal.returns-then-is_empty-clause-written
returns-then-is_empty-clause-written g c =
    nothing_sought (c.is_empty.ensures.0 c.if-is_empty.true)

pub returns-in_err-reader-clause-written : goal.returns-in_err-reader-clause-written
returns-in_err-reader-clause-written g c =
    let p = err_from_is_err_and c.from_residual.result c.from_residual.ensures.1 in
    rw (p.1, p.2) (root_refused
    (λ enough. absurd (false≢true (sym c.if-is_empty.false ∙ c.is_empty.ensures.1 enough)))
    (none_refused c.lawful_files_are_read.ensures
    (λ file goes. not_opened file (c.in_err-reader.ensures.tells file goes))))

pub returns-clause-written : goal.returns-clause-written
returns-clause-written g c =
    let reader = c.in_ok-reader.reader in
    flushed_told c.write_leaves-outcome.ensures.written c.in_ok-reader.ensures.of
    c.write_leaves-outcome.ensures.keeping c.settled.ensures
    (λ chunk stands file goes. stands file (
      c.in_ok-reader.ensures.asked.0 file goes,
      (c.in_ok-reader.ensures.tells file goes).1,
    ))
    (λ key fault may. none_refused c.lawful_files_are_read.ensures (λ file goes.
    let opened = c.in_ok-reader.ensures.tells file goes in
    opened_told reader c.in_ok-reader.ensures.of file opened.0
    (may file (c.in_ok-reader.ensures.asked.0 file goes) opened.1)))
