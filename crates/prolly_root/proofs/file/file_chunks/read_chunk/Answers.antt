use Rattle.std.proofs.Common.{◌≡◌, ◌∙◌, length, ap, arith, drop, take}
use Rattle.std.proofs.lemmas.List.{length-take-le}
use Rattle.prolly_root.specs.ChunkFile.{nth_in}
use Rattle.prolly_root.proofs.FileBytes.{chunk_there, read_whole}
use Rattle.prolly_root.proofs.file.file_chunks.read_chunk.Goals as goal

pub returns-then-count-len-clause-is : goal.returns-then-count-len-clause-is
returns-then-count-len-clause-is g c file walk holds at of =
    let buf = c.read_at.new.buf in
    let chunk = nth_in file c.args.frame.now.number in
    let value = ap length c.deref_mut.ensures.value in
    let len = c.in_ok-chunk.ensures.len in
    let long : length buf ≡ length chunk = omega (arith, of.len) in
    let read = chunk_there holds.cut at of c.in_ok-count.count buf long
    (c.in_ok-count.ensures.bytes holds.honest ∙
    ap (λ bytes. take (length buf) (drop c.args.frame.now.start bytes)) holds.are) in
    let taken = length-take-le c.in_ok-count.count buf (omega arith) in
    absurd (omega (arith, ap length read))

pub returns-clause-is : goal.returns-clause-is
returns-clause-is g c file walk holds at of =
    let buf = c.read_at.new.buf in
    let chunk = nth_in file c.args.frame.now.number in
    let value = ap length c.deref_mut.ensures.value in
    let len = c.in_ok-chunk.ensures.len in
    let long : length buf ≡ length chunk = omega (arith, of.len) in
    let read = chunk_there holds.cut at of c.in_ok-count.count buf long
    (c.in_ok-count.ensures.bytes holds.honest ∙
    ap (λ bytes. take (length buf) (drop c.args.frame.now.start bytes)) holds.are) in
    read_whole c.in_ok-count.count c.in_ok-chunk.chunk.len buf chunk _ read long (omega arith)
    (omega arith)
