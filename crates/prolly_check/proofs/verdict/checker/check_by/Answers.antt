use Rattle.std.proofs.Common.{arith}
use Rattle.std.proofs.lemmas.Result.{IfErr-weaker}
use Rattle.prolly_check.proofs.CheckedFile.{not_refused}
use Rattle.prolly_check.proofs.OneVerdict.{refusal, no_failed_read}
use Rattle.prolly_check.proofs.verdict.checker.check_by.Goals as goal

pub returns-clause-files : goal.returns-clause-files
returns-clause-files g c = λ honest content f within. IfErr-weaker c.of.result _ _
    (λ fault. not_refused c.in-Ok.bytes.items (g.S.Source.seen c.args.source.now).left content fault
    (omega arith) (c.in-Ok.ensures.whole honest) f) c.of.ensures.err

pub returns-clause-refused : goal.returns-clause-refused
returns-clause-refused g c = grind (arith, refusal)

pub returns-clause-read : goal.returns-clause-read
returns-clause-read g c = grind (arith, no_failed_read)
