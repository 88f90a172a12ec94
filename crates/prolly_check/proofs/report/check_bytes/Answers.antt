use Rattle.std.proofs.Common.{arith}
use Rattle.prolly_check.proofs.CheckedFile.{one_content, only_memory}
use Rattle.prolly_check.proofs.report.check_bytes.Goals as goal

pub returns-in-Ok-clause-report : goal.returns-in-Ok-clause-report
returns-in-Ok-clause-report g c = grind (arith, one_content)

pub returns-in-Err-clause-files : goal.returns-in-Err-clause-files
returns-in-Err-clause-files g c = λ content f. only_memory c.args.bytes.now content c.in-Err.fault
    (omega arith) f c.in-Err.ensures.err
