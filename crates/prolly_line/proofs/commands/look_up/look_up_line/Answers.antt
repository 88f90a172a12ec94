-- One argument more at each step.
use Rattle.std.proofs.lemmas.Result.{IfOk-weaker}
use Rattle.prolly_line.proofs.LineSteps.{added}
use Rattle.prolly_line.proofs.commands.look_up.look_up_line.Goals as goal

pub returns : goal.returns
returns c = λ rule is_read.
    let with_text = IfOk-weaker c.arg-line.result _ _
    (λ x adds. added c.described.result x c.text_flag.result _ _ c.described.ensures
    c.text_flag.ensures adds) c.arg-line.ensures in
    let with_trust = c.with_trust-line.ensures _ with_text in
    let with_file = c.with_argument-line.ensures _ _ with_trust c.file_word.ensures in
    c.with_argument.ensures _ rule with_file is_read
