use Rattle.std.proofs.Common.{ap, arith}
use Rattle.prolly_check.specs.Chunks.{content_of}
use Rattle.prolly_chunk.specs.Missing.{chunks_size}
use Rattle.prolly_check.proofs.CheckedFile.{few_bytes}
use Rattle.prolly_check.proofs.file.CheckedFile.chunks.Goals as goal

pub returns-clause-small : goal.returns-clause-small
returns-clause-small c =
    let has = c.self.invariant.0 in
    let few = few_bytes has.bytes (content_of c.self.inside.header c.self.inside.chunks) has.is in
    let short = has.short in
    omega (arith, ap chunks_size c.self.invariant.1)
