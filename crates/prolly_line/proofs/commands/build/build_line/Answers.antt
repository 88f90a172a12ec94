-- One argument more at each step.
use Rattle.std.proofs.lemmas.Result.{IfOk-weaker}
use Rattle.prolly_line.proofs.LineSteps.{added}
use Rattle.prolly_line.proofs.commands.build.build_line.Goals as goal

pub returns : goal.returns
returns c =
    let with_bits = IfOk-weaker c.arg-line.result _ _
    (λ x adds. added c.described.result x c.bits_option-bits.result _ _ c.described.ensures
    c.bits_option-bits.ensures adds) c.arg-line.ensures in
    let with_bytes = c.with_argument-line.ensures _ _ with_bits c.chunk_bytes_option.ensures in
    let with_stages = c.with_argument-line-2.ensures _ _ with_bytes c.stages_option.ensures in
    let with_capacity = c.with_argument-line-3.ensures _ _ with_stages c.capacity_option.ensures in
    let with_max_records = c.with_argument-line-4.ensures _ _ with_capacity
    c.max_records_option.ensures in
    let with_batch = c.with_argument-line-5.ensures _ _ with_max_records c.batch_option.ensures in
    let with_format = c.with_argument-line-6.ensures _ _ with_batch c.format_option.ensures in
    let with_quiet = c.with_argument-line-7.ensures _ _ with_format c.quiet_flag.ensures in
    let with_mode = c.with_mode-line.ensures _ with_quiet in
    let with_out = c.with_argument-line-8.ensures _ _ with_mode c.out_word.ensures in
    c.with_argument.ensures _ _ with_out c.files_words.ensures
