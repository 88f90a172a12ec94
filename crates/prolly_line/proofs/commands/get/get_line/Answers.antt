-- One argument more at each step.
use Rattle.std.proofs.lemmas.Result.{IfOk-weaker}
use Rattle.prolly_line.proofs.LineSteps.{added}
use Rattle.prolly_line.proofs.commands.get.get_line.Goals as goal

pub returns : goal.returns
returns c =
    let with_text = IfOk-weaker c.arg-line.result _ _
    (λ x adds. added c.described_as.result x c.text_flag-text.result _ _ c.described_as.ensures
    c.text_flag-text.ensures adds) c.arg-line.ensures in
    let with_raw = c.with_argument.ensures _ _ with_text c.raw_flag.ensures in
    let with_trust = c.with_trust-line.ensures _ with_raw in
    let with_keys = c.with_argument-line.ensures _ _ with_trust c.keys_option.ensures in
    let with_file = c.with_argument-line-2.ensures _ _ with_keys c.file_word.ensures in
    c.with_argument-2.ensures _ _ with_file c.optional_key_word.ensures
