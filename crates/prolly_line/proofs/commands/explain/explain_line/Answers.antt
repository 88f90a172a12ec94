-- One argument more at each step.
use Rattle.std.proofs.lemmas.Result.{IfOk-weaker}
use Rattle.prolly_line.proofs.LineSteps.{added}
use Rattle.prolly_line.proofs.commands.explain.explain_line.Goals as goal

pub returns : goal.returns
returns c =
    let with_text = IfOk-weaker c.arg-line.result _ _
    (λ x adds. added c.described_as.result x c.text_flag-text.result _ _ c.described_as.ensures
    c.text_flag-text.ensures adds) c.arg-line.ensures in
    let with_lines = c.with_argument-line.ensures _ _ with_text c.lines_flag.ensures in
    let with_removals = c.with_argument-line-2.ensures _ _ with_lines
    c.removals_flag-removals.ensures in
    let with_all = c.with_argument-line-3.ensures _ _ with_removals c.all_flag.ensures in
    c.with_argument.ensures _ _ with_all c.optional_file_word.ensures
