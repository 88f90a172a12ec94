-- One argument more at each step.
use Rattle.std.proofs.lemmas.Result.{IfOk-weaker}
use Rattle.prolly_line.proofs.LineSteps.{added}
use Rattle.prolly_line.proofs.commands.dump.dump_line.Goals as goal

pub returns : goal.returns
returns c =
    let with_text = IfOk-weaker c.arg-line.result _ _
    (λ x adds. added c.described.result x c.text_flag-text.result _ _ c.described.ensures
    c.text_flag-text.ensures adds) c.arg-line.ensures in
    let with_hex = c.with_argument-line.ensures _ _ with_text c.hex_flag.ensures in
    let with_trust = c.with_trust.ensures _ with_hex in
    let with_mode = c.with_mode-line.ensures _ with_trust in
    let with_file = c.with_argument.ensures _ _ with_mode c.file_word.ensures in
    c.with_argument-2.ensures _ _ with_file c.optional_out_word.ensures
