-- One argument more at each step.
use Rattle.std.proofs.lemmas.Result.{IfOk-weaker}
use Rattle.prolly_line.proofs.LineSteps.{added}
use Rattle.prolly_line.proofs.commands.apply.apply_line.Goals as goal

pub returns : goal.returns
returns c =
    let with_bits = IfOk-weaker c.arg-line.result _ _
    (λ x adds. added c.described.result x c.bits_option-bits.result _ _ c.described.ensures
    c.bits_option-bits.ensures adds) c.arg-line.ensures in
    let with_format = c.with_argument-line.ensures _ _ with_bits c.old_format_option.ensures in
    let with_root = c.with_argument-line-2.ensures _ _ with_format c.required_root_option.ensures in
    let with_quiet = c.with_argument-line-3.ensures _ _ with_root c.quiet_flag.ensures in
    let with_mode = c.with_mode.ensures _ with_quiet in
    let with_old = c.with_argument-line-4.ensures _ _ with_mode c.tree_word-old.ensures in
    let with_out = c.with_argument-line-5.ensures _ _ with_old c.out_word.ensures in
    c.with_argument.ensures _ _ with_out c.changes_words.ensures
