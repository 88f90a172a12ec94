use Rattle.std.proofs.Common.{◌≡◌, arith, false, true, sym, ◌∙◌}
use Rattle.prolly_answer.proofs.ChunkSizes.{one_doubled}
use Rattle.prolly_answer.proofs.chunk_bytes.chosen_bits.least_bits.Goals as goal

pub loop-bits-preserved : goal.loop-bits-preserved
loop-bits-preserved c =
    one_doubled c.args.entry c.args.wanted c.loop-bits.bits c.loop-bits.size (omega arith)
    c.loop-bits.invariant
    (λ enough.
    let bad : true ≡ false = sym (c.is_enough.ensures.1 enough) ∙ c.if-is_enough.false in
    cc)
