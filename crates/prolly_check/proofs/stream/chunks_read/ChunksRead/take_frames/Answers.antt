use Rattle.std.proofs.Common.{◌≡◌, ◌+◌, [], ap, arith, inl, inr, length, refl}
use Rattle.std.proofs.lemmas.List.{nil_from_length}
use Rattle.std.proofs.lemmas.Result.{err_from_is_err_and}
use Rattle.prolly_check.proofs.ChunkSteps.{body_flaw, body_goes_on, body_size, few_spans, no_frame_there}
use Rattle.prolly_check.proofs.stream.chunks_read.ChunksRead.take_frames.Goals as goal

pub returns-then-len-eq0-clause-none : goal.returns-then-len-eq0-clause-none
returns-then-len-eq0-clause-none g c = λ no.
    let spans = c.in_ok-frames.frames.spans in
    let empty : spans.items ≡ [] = nil_from_length spans.items
    (omega (arith, c.len.ensures, c.if-len-eq0.true, spans.ok.0)) in (
      refl,
      no_frame_there _ _ (rw (c.deref.ensures.value, empty) at c.in_ok-frames.ensures.frames)
          (rw c.deref.ensures.value at c.in_ok-frames.ensures.all),
    )

pub returns-in_default-clause-takes : goal.returns-in_default-clause-takes
returns-in_default-clause-takes g c = λ body left b.
    let reached = (rw c.deref.ensures.value at c.in_ok-frames.ensures.frames).reached in
    let size = body_size body _ left c.args.self.now c.args.size.now b in
    inr (inr (inl (refl, omega (arith, reached, size, c.in_default.ensures))))

pub go_over-requires-clause-few : goal.go_over-requires-clause-few
go_over-requires-clause-few g c =
    let few = few_spans c.args.bytes.now.items c.in_ok-frames.frames.spans.items
    c.in_ok-frames.frames.end (rw c.deref.ensures.value at c.in_ok-frames.ensures.frames) in
    let same = ap length c.deref-3.ensures.value in
    omega (arith, few, same, c.in-Some.ensures, c.requires.few)

pub returns-in_err-go_over-clause-takes : goal.returns-in_err-go_over-clause-takes
returns-in_err-go_over-clause-takes g c = λ body left b.
    let p = err_from_is_err_and c.from_residual-in_err-go_over.result
    c.from_residual-in_err-go_over.ensures.1 in
    rw (p.1, p.2) (body_flaw body _ left c.args.self.now c.args.size.now
    c.in_ok-frames.frames.spans.items c.in_ok-frames.frames.end _ b
    (rw c.deref.ensures.value at c.in_ok-frames.ensures.frames)
    (omega (arith, c.in-Some.ensures))
    (rw (c.deref-2.ensures.value, c.deref-3.ensures.value) at c.in_err-go_over.ensures.over))

pub returns-clause-takes : goal.returns-clause-takes
returns-clause-takes g c = λ body left b.
    let sum : c.in-Some.sum ≡ c.args.size.now + c.in_ok-frames.frames.end =
    omega (arith, c.in-Some.ensures) in
    rw (c.let_go.ensures, sum)
    (body_goes_on body _ left c.args.self.now c.go_over.new.self c.args.size.now
    c.in_ok-frames.frames.spans.items c.in_ok-frames.frames.end b
    (rw c.deref.ensures.value at c.in_ok-frames.ensures.frames)
    (rw (c.deref-2.ensures.value, c.deref-3.ensures.value) at c.in_ok-go_over.ensures.over)
    (omega (arith, c.in-Some.ensures)))

pub returns-clause-few : goal.returns-clause-few
returns-clause-few g c =
    let few = few_spans c.args.bytes.now.items c.in_ok-frames.frames.spans.items
    c.in_ok-frames.frames.end (rw c.deref.ensures.value at c.in_ok-frames.ensures.frames) in
    let same = ap length c.deref-3.ensures.value in (
      omega (arith, few, same, c.in-Some.ensures, c.in_ok-go_over.ensures.count, c.requires.few),
      omega (arith, c.in-Some.ensures),
    )

pub returns-clause-some : goal.returns-clause-some
returns-clause-some g c = λ yes.
    let few = few_spans c.args.bytes.now.items c.in_ok-frames.frames.spans.items
    c.in_ok-frames.frames.end (rw c.deref.ensures.value at c.in_ok-frames.ensures.frames) in
    omega (
      arith,
      few,
      c.len.ensures,
      c.if-len-eq0.false,
      c.in_ok-frames.frames.spans.ok.0,
      c.in-Some.ensures,
    )
