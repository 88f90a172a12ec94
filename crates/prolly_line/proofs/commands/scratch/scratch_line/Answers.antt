-- One argument more at each step.
use Rattle.std.proofs.lemmas.Result.{IfOk-weaker}
use Rattle.prolly_line.proofs.LineSteps.{added}
use Rattle.prolly_line.proofs.commands.scratch.scratch_line.Goals as goal

pub returns : goal.returns
returns c =
    let with_bits = IfOk-weaker c.arg-line.result _ _
    (λ x adds. added c.described.result x c.bits_option-bits.result _ _ c.described.ensures
    c.bits_option-bits.ensures adds) c.arg-line.ensures in
    let with_bytes = c.with_argument-line.ensures _ _ with_bits c.chunk_bytes_option.ensures in
    let with_format = c.with_argument-line-2.ensures _ _ with_bytes c.format_option.ensures in
    let with_out = c.with_argument-line-3.ensures _ _ with_format c.out_option-out.ensures in
    c.with_mode.ensures _ with_out
