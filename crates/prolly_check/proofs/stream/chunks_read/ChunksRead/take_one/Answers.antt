use Rattle.std.proofs.Common.{◌≡◌, [], arith, get_or, sym, ◌∙◌}
use Rattle.std.proofs.lemmas.List.{get_or-map, length-map}
use Rattle.prolly_check.specs.Frames.{chunk_in, chunks_in}
use Rattle.prolly_check.proofs.stream.chunks_read.ChunksRead.take_one.Goals as goal

pub take-requires-clause-digest : goal.take-requires-clause-digest
take-requires-clause-digest c =
    let bytes = c.args.bytes.now in
    let spans = c.args.spans.now in
    let is : c.chunk_at-chunk.result.now ≡ get_or (chunks_in bytes spans) c.args.number [] =
    c.chunk_at-chunk.ensures ∙
    sym (get_or-map (chunk_in bytes) spans c.args.number _ [] c.requires.there) in
    rw is (c.requires.digests.each c.args.number _
    (omega (arith, c.requires.there, length-map spans (chunk_in bytes))))
