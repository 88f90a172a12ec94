use Rattle.std.proofs.Common.{refl}
use Rattle.prolly_range.proofs.verifier.test_due.Goals as goal

pub returns-in-Err-clause-err : goal.returns-in-Err-clause-err
returns-in-Err-clause-err c = (
  c.of_flaw.result,
  refl,
  record {
    flaw = c.in-Err.flaw;
    is = c.of_flaw.ensures;
    so = c.in-Err.ensures.err;
  },
)
