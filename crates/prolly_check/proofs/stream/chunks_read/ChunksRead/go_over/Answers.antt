use Rattle.std.proofs.Common.{◌≡◌, ◌∙◌, [], arith, get_or, inr, length, subst, sym}
use Rattle.std.proofs.Math.Logic.{⊎_map}
use Rattle.std.proofs.lemmas.List.{length-map}
use Rattle.std.proofs.lemmas.Result.{err_from_is_err_and}
use Rattle.prolly_check.specs.Digests.{IsBroken}
use Rattle.prolly_check.specs.Frames.{chunk_in, chunks_in}
use Rattle.prolly_check.proofs.ChunkSteps.{bad_next, chunks_front, few_part, flaw_within}
use Rattle.prolly_check.proofs.stream.chunks_read.ChunksRead.go_over.Goals as goal

pub take_hashed-requires-clause-digests : goal.take_hashed-requires-clause-digests
take_hashed-requires-clause-digests g c =
    let count : c.len-count.result ≡ length c.in_ok-digests.digests.items =
    c.len-count.ensures ∙ c.in_ok-digests.digests.ok.0 in
    rw (
      c.deref.ensures.value,
      chunks_front c.args.bytes.now c.args.spans.now c.len-count.result,
      count,
    ) c.in_ok-digests.ensures.front

pub returns-in_err-take_hashed-clause-over : goal.returns-in_err-take_hashed-clause-over
returns-in_err-take_hashed-clause-over g c = λ chunks r few.
    let p = err_from_is_err_and c.from_residual-in_err-take_hashed.result
    c.from_residual-in_err-take_hashed.ensures.1 in
    let taken = chunks_in c.args.bytes.now c.args.spans.now in
    let n = c.len-count.result in
    let front = chunks_front c.args.bytes.now c.args.spans.now n in
    rw (p.1, p.2)
    (⊎_map (λ memory. memory) (flaw_within c.args.self.now chunks taken n _)
    (rw front at (c.in_err-take_hashed.ensures.over chunks r
    (rw front (few_part chunks taken n few)))))

pub returns-then-count-spans-clause-over : goal.returns-then-count-spans-clause-over
returns-then-count-spans-clause-over g c = λ chunks r few.
    let follower = c.args.self.now.follower in
    let taken = chunks_in c.args.bytes.now c.args.spans.now in
    let n = c.len-count.result in
    let count : n ≡ length c.in_ok-digests.digests.items =
    c.len-count.ensures ∙ c.in_ok-digests.digests.ok.0 in
    let many = length-map c.args.spans.now (chunk_in c.args.bytes.now) in
    let front = chunks_front c.args.bytes.now c.args.spans.now n in
    let shorter = few_part chunks taken n few in
    inr (bad_next chunks taken n (omega (arith, many, c.if-count-spans.true)) c.args.self.now
    c.take_hashed.new.self shorter
    (rw front at (c.in_ok-take_hashed.ensures.over chunks r (rw front shorter)))
    c.in_ok-take_hashed.ensures.alike
    (subst (λ k. IsBroken follower.version (get_or taken k [])) (sym count)
    (c.in_ok-digests.ensures.bad (omega (arith, count, many, c.if-count-spans.true)))))
