-- One argument more at each step.
use Rattle.std.proofs.lemmas.Result.{IfOk-weaker}
use Rattle.prolly_line.proofs.LineSteps.{added}
use Rattle.prolly_line.proofs.commands.diff.diff_line.Goals as goal

pub returns : goal.returns
returns c =
    let with_text = IfOk-weaker c.arg-line.result _ _
    (λ x adds. added c.described.result x c.text_flag-text.result _ _ c.described.ensures
    c.text_flag-text.ensures adds) c.arg-line.ensures in
    let with_stat = c.with_argument-line.ensures _ _ with_text c.stat_flag.ensures in
    let with_roots = c.with_roots-line.ensures _ with_stat in
    let with_out = c.with_argument.ensures _ _ with_roots c.out_option-out.ensures in
    let with_mode = c.with_mode-line.ensures _ with_out in
    let with_old = c.with_argument-2.ensures _ _ with_mode c.tree_word-old.ensures in
    c.with_argument-3.ensures _ _ with_old c.tree_word-new.ensures
