use Rattle.std.proofs.Common.{◌++◌, ◌∙◌, Ok, ap, map, option_map, subst}
use Rattle.std.proofs.lemmas.Result.{err_from_is_err_and}
use Rattle.prolly_io.specs.Frame.{framed}
use Rattle.prolly_io.specs.Sink.{TakesPrefix}
use Rattle.prolly_range.specs.Prover.{ProvesNext, located_due}
use Rattle.prolly_range.specs.Places.{TellsNext}
use Rattle.prolly_range.proofs.Finds.{ends_there, goes_further, stops_there}
use Rattle.prolly_range.proofs.Writing.{frame_part, one_written}
use Rattle.prolly_range.proofs.prover.write_chunks.Goals as goal

pub returns-in_err-write_frame-clause-part : goal.returns-in_err-write_frame-clause-part
returns-in_err-write_frame-clause-part g c =
    let p = err_from_is_err_and c.from_residual-in_err-write_frame.result
    c.from_residual-in_err-write_frame.ensures.1 in
    let before = map located_due c.loop-chunk.due.items in
    let next = map located_due c.next_chunk.new.due.items in
    let mid = g.W.Sink.seen c.loop-chunk.sink in
    let new = g.W.Sink.seen c.write_frame.new.sink in
    let proves = subst (λ o. ProvesNext c.args.version before (option_map (λ c. c.items) o) next)
    c.in-Some.is c.in_ok-chunk.ensures.proves in
    rw p.1 (frame_part c.args.version (map located_due c.args.due.now.items)
    (g.W.Sink.seen c.args.sink.now) mid before c.loop-chunk.invariant.written new
    c.in-Some.chunk.items next proves
    (λ keeps. subst (λ x. TakesPrefix mid.taken new.taken (framed x)) c.deref.ensures.value
    (c.in_err-write_frame.ensures.part keeps)))

pub loop-chunk-preserved : goal.loop-chunk-preserved
loop-chunk-preserved g c =
    let before = map located_due c.loop-chunk.due.items in
    let next = map located_due c.next_chunk.new.due.items in
    let mid = g.W.Sink.seen c.loop-chunk.sink in
    let new = g.W.Sink.seen c.write_frame.new.sink in
    let proves = subst (λ o. ProvesNext c.args.version before (option_map (λ c. c.items) o) next)
    c.in-Some.is c.in_ok-chunk.ensures.proves in
    record {
      written = one_written c.args.version (map located_due c.args.due.now.items)
          (g.W.Sink.seen c.args.sink.now) mid before c.loop-chunk.invariant.written new
          c.in-Some.chunk.items next proves
          (λ keeps. c.in_ok-write_frame.ensures.written keeps ∙
          ap (λ x. mid.taken ++ framed x) c.deref.ensures.value)
          c.in_ok-write_frame.ensures.keeping;
      goes = λ file goes.
          c.in_ok-chunk.ensures.asked.0 file (c.loop-chunk.invariant.goes file goes);
      reads = c.in_ok-chunk.ensures.asked.1 ∙ c.loop-chunk.invariant.reads;
      writes = c.in_ok-write_frame.ensures.failures ∙ c.loop-chunk.invariant.writes;
      tells = λ file at over stand.
          let gone = c.loop-chunk.invariant.tells file at over stand in
          let next = subst (λ r. TellsNext g.S.ChunkSource.stands c.args.version file gone.0
          c.next_chunk.new.due.items (Ok r)) c.in-Some.is
          (c.in_ok-chunk.ensures.tells file gone.0 (c.loop-chunk.invariant.goes file over) gone.2)
          in
          (next.0, goes_further c.args.version file gone.1 next.1, next.2);
    }

pub returns-in_err-chunk-clause-tells : goal.returns-in_err-chunk-clause-tells
returns-in_err-chunk-clause-tells g c file at over stand =
    let gone = c.loop-chunk.invariant.tells file at over stand in
    let p = err_from_is_err_and c.from_residual.result c.from_residual.ensures.1 in
    rw (p.1, p.2) (stops_there c.args.version file gone.1
    (c.in_err-chunk.ensures.tells file gone.0 (c.loop-chunk.invariant.goes file over) gone.2))

pub returns-clause-tells : goal.returns-clause-tells
returns-clause-tells g c file at over stand =
    let gone = c.loop-chunk.invariant.tells file at over stand in
    ends_there c.args.version file gone.1
    (subst (λ r. TellsNext g.S.ChunkSource.stands c.args.version file gone.0
    c.next_chunk.new.due.items (Ok r)) c.in_default.is
    (c.in_ok-chunk.ensures.tells file gone.0 (c.loop-chunk.invariant.goes file over) gone.2))
