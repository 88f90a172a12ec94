-- One argument more at each step.
use Rattle.std.proofs.lemmas.Result.{IfOk-weaker}
use Rattle.prolly_line.proofs.LineSteps.{added}
use Rattle.prolly_line.proofs.commands.verify.verify_line.Goals as goal

pub returns : goal.returns
returns c =
    let with_text = IfOk-weaker c.arg-line.result _ _
    (λ x adds. added c.described_as.result x c.text_flag-text.result _ _ c.described_as.ensures
    c.text_flag-text.ensures adds) c.arg-line.ensures in
    let with_format = c.with_argument-line.ensures _ _ with_text c.format_option-format.ensures in
    let with_range = c.with_range-line.ensures _ with_format in
    let with_root = c.with_argument-line-2.ensures _ _ with_range c.root_word.ensures in
    let with_key = c.with_argument-line-3.ensures _ _ with_root c.optional_key_word.ensures in
    c.with_argument.ensures _ _ with_key c.proof_word.ensures
