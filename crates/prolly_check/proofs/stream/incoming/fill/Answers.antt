use Rattle.std.proofs.lemmas.Result.{err_from_is_err_and}
use Rattle.prolly_check.proofs.Sources.{part_failed, read_told, was_read}
use Rattle.prolly_check.proofs.stream.incoming.fill.Goals as goal

pub returns-in_err-read_up_to-clause-source : goal.returns-in_err-read_up_to-clause-source
returns-in_err-read_up_to-clause-source g c =
    let p = err_from_is_err_and c.from_residual.result c.from_residual.ensures.1 in
    rw (p.1, p.2) (read_told _ _ c.loop-bytes.invariant.source _ (
      was_read _ _
          c.in_err-read_up_to.ensures.never c.in_err-read_up_to.ensures.honest
          c.in_err-read_up_to.ensures.steady,
      part_failed c.in_err-read_up_to.field-0.0 c.in_err-read_up_to.ensures.read,
    ))
