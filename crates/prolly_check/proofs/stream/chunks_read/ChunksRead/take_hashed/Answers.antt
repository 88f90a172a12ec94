use Rattle.std.proofs.Common.{◌<◌, ◌+◌, ◌++◌, arith, length, take, subst, ◌∙◌}
use Rattle.std.proofs.Math.Logic.{⊎_map}
use Rattle.std.proofs.lemmas.List.{length-map}
use Rattle.std.proofs.lemmas.Result.{err_from_is_err_and}
use Rattle.prolly_check.specs.ChunksRead.{AreRead}
use Rattle.prolly_check.specs.Frames.{chunk_in, chunks_in}
use Rattle.prolly_check.proofs.ChunkSteps.{few_before, few_next, few_part, flaw_next, next_is}
use Rattle.prolly_check.proofs.DigestLists.{digests_whole}
use Rattle.prolly_look_up.specs.lemmas.HeldPairs.{each_whole}
use Rattle.prolly_check.proofs.stream.chunks_read.ChunksRead.take_hashed.Goals as goal

pub returns-in_err-take_one-clause-over : goal.returns-in_err-take_one-clause-over
returns-in_err-take_one-clause-over c = λ chunks r few.
    let p = err_from_is_err_and c.from_residual.result
    c.from_residual.ensures.1 in
    let taken = chunks_in c.args.bytes.now c.args.spans.now in
    let whole = digests_whole c.args.self.now.follower.version c.args.self.now.follower.cut taken
    c.args.digests.now c.requires.digests in
    let n = c.loop-number.number in
    let within : n < length taken =
    omega (arith, length-map c.args.spans.now (chunk_in c.args.bytes.now)) in
    let part = few_part chunks taken (n + 1) few in
    let before = few_before chunks taken n within part in
    let mid = c.loop-number.invariant.over chunks r before in
    let alike = c.loop-number.invariant.alike in
    rw (p.1, p.2)
    (⊎_map (λ memory. memory)
    (flaw_next chunks taken n within c.args.self.now c.loop-number.self _ before mid alike)
    (c.in_err-take_one.ensures.takes (chunks ++ take n taken) mid
    (few_next chunks taken n within part c.loop-number.self.follower.version mid.whole
    (rw alike.1 (each_whole c.args.self.now.follower.version taken n whole within)))))

pub loop-number-preserved : goal.loop-number-preserved
loop-number-preserved c =
    let taken = chunks_in c.args.bytes.now c.args.spans.now in
    let whole = digests_whole c.args.self.now.follower.version c.args.self.now.follower.cut taken
    c.args.digests.now c.requires.digests in
    let n = c.loop-number.number in
    let within : n < length taken =
    omega (arith, length-map c.args.spans.now (chunk_in c.args.bytes.now)) in
    let alike = c.loop-number.invariant.alike in
    record {
      over = λ chunks r part.
          let before = few_before chunks taken n within part in
          let mid = c.loop-number.invariant.over chunks r before in
          subst (λ cs. AreRead cs c.take_one.new.self) (next_is chunks taken n within)
          (c.in_ok-take_one.ensures.takes (chunks ++ take n taken) mid
          (few_next chunks taken n within part c.loop-number.self.follower.version mid.whole
          (rw alike.1
          (each_whole c.args.self.now.follower.version taken n whole within))));
      alike = (
        c.in_ok-take_one.ensures.alike.0 ∙ alike.0,
        c.in_ok-take_one.ensures.alike.1 ∙ alike.1,
      );
      count = omega (arith, c.in_ok-take_one.ensures.count, c.loop-number.invariant.count);
    }
