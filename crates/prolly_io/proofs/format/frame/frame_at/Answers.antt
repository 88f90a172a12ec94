use Rattle.std.proofs.Common.{rules, arith}
use Rattle.prolly_io.proofs.FrameBytes.{frame_found}
use Rattle.prolly_io.proofs.format.frame.frame_at.Goals as goal

pub returns-clause-found : goal.returns-clause-found
returns-clause-found c = frame_found c.args.bytes.now c.read_u64-len.result (λ i. search rules)
    c.if-bytes-ne-FRAME_LETTER.false (omega arith) (omega arith) (search rules)
