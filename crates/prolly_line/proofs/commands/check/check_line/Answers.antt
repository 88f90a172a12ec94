-- One argument more at each step.
use Rattle.std.proofs.lemmas.Result.{IfOk-weaker}
use Rattle.prolly_line.proofs.LineSteps.{added}
use Rattle.prolly_line.proofs.commands.check.check_line.Goals as goal

pub returns : goal.returns
returns c =
    let with_files = IfOk-weaker c.arg-line.result _ _
    (λ x adds. added c.described.result x c.file_words.result _ _ c.described.ensures
    c.file_words.ensures adds) c.arg-line.ensures in
    let with_trust = c.with_trust.ensures _ with_files in
    c.with_argument.ensures _ _ with_trust c.quiet_flag-quiet.ensures
