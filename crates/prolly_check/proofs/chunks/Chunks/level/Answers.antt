use Rattle.std.proofs.Common.{◌<◌, ◌∙◌, [], ap, get_or, length, subst, sym, arith}
use Rattle.std.proofs.lemmas.List.{get_or-map, length-map}
use Rattle.prolly_check.specs.Frames.{chunk_in, chunks_in}
use Rattle.prolly_look_up.specs.lemmas.HeldPairs.{each_whole, some_byte}
use Rattle.prolly_check.proofs.chunks.Chunks.level.Goals as goal

pub bounds-chunk_at-0 : goal.bounds-chunk_at-0
bounds-chunk_at-0 c =
    let layout = c.self.inside.layout.now in
    let bytes = c.self.inside.bytes.now in
    let spans = layout.spans.items in
    let number = c.args.number in
    let within : number < length (chunks_in bytes spans) =
    subst (λ chunks. number < length chunks) (sym c.self.view_is) c.requires in
    let some = some_byte layout.header.version (get_or (chunks_in bytes spans) number [])
    (each_whole layout.header.version (chunks_in bytes spans) number c.self.invariant.1 within) in
    let is = c.chunk_at.ensures ∙ ap (chunk_in bytes) c.index.ensures ∙
    sym (get_or-map (chunk_in bytes) spans number c.index.result.now []
    (omega (arith, length-map spans (chunk_in bytes)))) in
    omega (arith, ap length is)
