use Rattle.std.proofs.Common.{length, refl, ap, arith}
use Rattle.prolly_c.proofs.Behind.{still_behind}
use Rattle.prolly_c.proofs.Entries.{end_drop}
use Rattle.prolly_c.proofs.FileFrames.{frame_length, has_chunks, has_header, next_chunk}
use Rattle.prolly_c.proofs.FileFrames.{written_all, written_none}
use Rattle.prolly_c.proofs.writer.write_index.Goals as goal

pub returns-then-bytes-lt-HEADER_SIZE-clause-index : goal.returns-then-bytes-lt-HEADER_SIZE-clause-index
returns-then-bytes-lt-HEADER_SIZE-clause-index c = λ content f.
    let some = has_header c.args.bytes.now content f in absurd (omega arith)

pub loop-chunk-init : goal.loop-chunk-init
loop-chunk-init c =
    let end = end_drop c.args.bytes.now c.split_at.result.1.now 6 c.split_at.ensures.back in
    record {
      within = omega (arith, c.split_at.ensures.back_len);
      few = omega arith;
      fewer = omega arith;
      room = refl;
      behind = refl;
      indexed = λ content f. written_none c.args.bytes.now end.front c.split_at.result.1.now content
          c.args.out.now (has_chunks c.files_are_accepted.ensures.accepted c.args.bytes.now content
          (omega arith) f) c.split_at.ensures.back end.is;
    }

pub returns-in_err-written-clause-index : goal.returns-in_err-written-clause-index
returns-in_err-written-clause-index c = λ content f.
    let w = c.loop-chunk.invariant.indexed content f in
    let next = next_chunk c.args.bytes.now c.loop-chunk.rest.now c.in-Some.chunk.now
    c.in-Some.behind.now content c.loop-chunk.out c.loop-chunk.written c.in-Some.ensures.found.0
    c.in-Some.ensures.found.1 w in
    absurd (c.in_err-written.ensures.wrote content.version w.done next.pairs w.end next.holds w.wrote)

pub loop-chunk-preserved : goal.loop-chunk-preserved
loop-chunk-preserved c = record {
  within = let size = frame_length c.in-Some.chunk.now c.in-Some.behind.now in
      let same = ap length c.in-Some.ensures.found.1 in omega arith;
  few = c.in_ok-written.ensures.few;
  fewer = c.in_ok-written.ensures.fewer;
  room = omega (arith, c.in_ok-written.ensures.room);
  behind = still_behind c.loop-chunk.written.runs c.in_ok-written.written.runs c.args.out.now
      c.loop-chunk.out c.add_chunk.new.out c.in_ok-written.ensures.more
      c.loop-chunk.invariant.behind c.in_ok-written.ensures.behind;
  indexed = λ content f.
      let w = c.loop-chunk.invariant.indexed content f in
      let next = next_chunk c.args.bytes.now c.loop-chunk.rest.now c.in-Some.chunk.now
      c.in-Some.behind.now content c.loop-chunk.out c.loop-chunk.written c.in-Some.ensures.found.0
      c.in-Some.ensures.found.1 w in
      next.goes_on c.add_chunk.new.out c.in_ok-written.written
      (c.in_ok-written.ensures.wrote content.version w.done next.pairs w.end next.holds w.wrote);
}

pub returns-clause-index : goal.returns-clause-index
returns-clause-index c = λ content f. (written_all c.args.bytes.now c.loop-chunk.rest.now content
    c.loop-chunk.out c.loop-chunk.written (c.in_default.ensures.none refl)
    (c.loop-chunk.invariant.indexed content f)).0.runs_are

pub returns-clause-count : goal.returns-clause-count
returns-clause-count c = λ content f. (written_all c.args.bytes.now c.loop-chunk.rest.now content
    c.loop-chunk.out c.loop-chunk.written (c.in_default.ensures.none refl)
    (c.loop-chunk.invariant.indexed content f)).1
