use Rattle.std.proofs.Common.{◌<◌, ◌∙◌, [], ap, arith, length, sym}
use Rattle.std.proofs.lemmas.List.{get_or-map, length-map}
use Rattle.prolly_entry.specs.Reference.{reference_of}
use Rattle.prolly_check.specs.Frames.{chunk_in, chunks_in}
use Rattle.prolly_look_up.specs.lemmas.SameBytes.{equal}
use Rattle.prolly_check.proofs.verdict.chunks_ahead.ChunksAhead.reference_of.Goals as goal

pub returns : goal.returns
returns c =
    let bytes = c.self.inside.bytes.now in
    let spans = c.self.inside.spans.now in
    let number = c.saturating_add-number.result in
    let within : number < length (chunks_in bytes spans) =
    omega (arith, length-map spans (chunk_in bytes)) in
    c.self.invariant.1.each number _ within ∙ ap reference_of
    (get_or-map (chunk_in bytes) spans number _ [] (omega (arith, c.if-number-self.false)) ∙
    sym c.chunk_at.ensures ∙ equal _ _ (sym c.if-ne.false ∙ c.ne.ensures))
