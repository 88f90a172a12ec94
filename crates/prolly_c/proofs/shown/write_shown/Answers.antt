use Rattle.std.proofs.Common.{length, refl, ap, arith}
use Rattle.std.specs.Option.{option_copied}
use Rattle.prolly_range.specs.KeySet.KeySet.{Range}
use Rattle.prolly_c.proofs.Behind.{still_behind}
use Rattle.prolly_c.proofs.Entries.{end_drop}
use Rattle.prolly_c.proofs.FileFrames.{frame_length}
use Rattle.prolly_c.proofs.ShownPairs.{has_start, next_shown, shown_all, shown_none}
use Rattle.prolly_c.specs.RangeProofs.{runs_shown}
use Rattle.prolly_c.proofs.shown.write_shown.Goals as goal

pub returns-then-proof-lt-PROOF_START-clause-index : goal.returns-then-proof-lt-PROOF_START-clause-index
returns-then-proof-lt-PROOF_START-clause-index c = λ version root pairs p.
    let some = has_start version root (Range c.args.from.now (option_copied c.args.to))
    c.args.proof.now pairs p in absurd (omega arith)

pub loop-chunk-init : goal.loop-chunk-init
loop-chunk-init c =
    let end = end_drop c.args.proof.now c.split_at.result.1.now 5 c.split_at.ensures.back in
    record {
      within = omega (arith, c.split_at.ensures.back_len);
      few = omega arith;
      fewer = omega arith;
      room = refl;
      behind = refl;
      indexed = λ version root pairs p. shown_none version root c.args.from.now
          (option_copied c.args.to) c.args.proof.now end.front c.split_at.result.1.now pairs
          c.args.out.now p c.split_at.ensures.back end.is;
    }

pub returns-in_err-written-clause-index : goal.returns-in_err-written-clause-index
returns-in_err-written-clause-index c = λ version root pairs p.
    let w = c.loop-chunk.invariant.indexed version root pairs p in
    let next = next_shown version c.args.from.now (option_copied c.args.to) c.args.proof.now
    c.loop-chunk.rest.now c.in-Some.chunk.now c.in-Some.behind.now pairs c.loop-chunk.out
    c.loop-chunk.written
    (runs_shown version (Range c.args.from.now (option_copied c.args.to)) p.chunks) c.in-Some.ensures.found.0 c.in-Some.ensures.found.1 w in
    absurd (c.in_err-written.ensures.wrote version w.done next.here w.end next.shows w.wrote)

pub loop-chunk-preserved : goal.loop-chunk-preserved
loop-chunk-preserved c = record {
  within = let size = frame_length c.in-Some.chunk.now c.in-Some.behind.now in
      let same = ap length c.in-Some.ensures.found.1 in omega arith;
  few = c.in_ok-written.ensures.few;
  fewer = c.in_ok-written.ensures.fewer;
  room = omega (arith, c.in_ok-written.ensures.room);
  behind = still_behind c.loop-chunk.written.runs c.in_ok-written.written.runs c.args.out.now
      c.loop-chunk.out c.add_shown.new.out c.in_ok-written.ensures.more
      c.loop-chunk.invariant.behind c.in_ok-written.ensures.behind;
  indexed = λ version root pairs p.
      let w = c.loop-chunk.invariant.indexed version root pairs p in
      let next = next_shown version c.args.from.now (option_copied c.args.to) c.args.proof.now
      c.loop-chunk.rest.now c.in-Some.chunk.now c.in-Some.behind.now pairs c.loop-chunk.out
      c.loop-chunk.written
      (runs_shown version (Range c.args.from.now (option_copied c.args.to)) p.chunks) c.in-Some.ensures.found.0 c.in-Some.ensures.found.1 w in
      next.goes_on c.add_shown.new.out c.in_ok-written.written
      (c.in_ok-written.ensures.wrote version w.done next.here w.end next.shows w.wrote);
}

pub returns-clause-index : goal.returns-clause-index
returns-clause-index c = λ version root pairs p. (shown_all version c.args.from.now
    (option_copied c.args.to) c.args.proof.now c.loop-chunk.rest.now pairs c.loop-chunk.out
    c.loop-chunk.written
    (runs_shown version (Range c.args.from.now (option_copied c.args.to)) p.chunks)
    (c.in_default.ensures.none refl)
    (c.loop-chunk.invariant.indexed version root pairs p)).0.runs_are

pub returns-clause-count : goal.returns-clause-count
returns-clause-count c = λ version root pairs p. (shown_all version c.args.from.now
    (option_copied c.args.to) c.args.proof.now c.loop-chunk.rest.now pairs c.loop-chunk.out
    c.loop-chunk.written
    (runs_shown version (Range c.args.from.now (option_copied c.args.to)) p.chunks)
    (c.in_default.ensures.none refl)
    (c.loop-chunk.invariant.indexed version root pairs p)).1
