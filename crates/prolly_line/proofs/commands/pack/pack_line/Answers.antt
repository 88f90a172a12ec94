-- One argument more at each step.
use Rattle.std.proofs.lemmas.Result.{IfOk-weaker}
use Rattle.prolly_line.proofs.LineSteps.{added}
use Rattle.prolly_line.proofs.commands.pack.pack_line.Goals as goal

pub returns : goal.returns
returns c =
    let with_text = IfOk-weaker c.arg-line.result _ _
    (λ x adds. added c.described.result x c.text_flag-text.result _ _ c.described.ensures
    c.text_flag-text.ensures adds) c.arg-line.ensures in
    let with_removals = c.with_argument-line.ensures _ _ with_text c.removals_flag-removals.ensures in
    let with_sort = c.with_sort.ensures _ with_removals in
    let with_mode = c.with_mode-line.ensures _ with_sort in
    c.with_argument.ensures _ _ with_mode c.out_word.ensures
