use Rattle.std.proofs.lemmas.Result.{err_from_is_err_and}
use Rattle.prolly_answer.proofs.RootFaultSteps.{keys_not_opened, keys_told_of}
use Rattle.prolly_answer.proofs.KeySteps.{keys_refused, keys_told}
use Rattle.prolly_answer.proofs.answers.root_get_keys.write_keys.Goals as goal

pub returns-in_err-reader-clause-found : goal.returns-in_err-reader-clause-found
returns-in_err-reader-clause-found g c =
    let p = err_from_is_err_and c.from_residual.result c.from_residual.ensures.1 in
    rw (p.1, p.2) (keys_refused (keys_not_opened c.args.version c.args.root.now.0
    c.lawful_files_are_read.ensures _ c.in_err-reader.ensures.tells))

pub returns-clause-found : goal.returns-clause-found
returns-clause-found g c = keys_told c.write_each-outcome.ensures.found c.in_ok-reader.ensures.of
    c.write_each-outcome.ensures.keeping c.settled.ensures
    (λ chunk stands file goes. stands file (
      c.in_ok-reader.ensures.asked.0 file goes,
      (c.in_ok-reader.ensures.tells file goes).1,
    ))
    (λ left fault may. keys_told_of c.in_ok-reader.reader c.in_ok-reader.ensures.of
    c.lawful_files_are_read.ensures left fault c.in_ok-reader.ensures.asked.0
    c.in_ok-reader.ensures.tells may)
