use Rattle.std.proofs.Common.{arith, refl, rules}
use Rattle.std.proofs.lemmas.List.{length-map}
use Rattle.prolly_check.specs.Digests.{IsDigest}
use Rattle.prolly_check.specs.Frames.{chunk_in, chunks_in}
use Rattle.prolly_check.proofs.DigestLists.{has_more, has_none, stops_there}
use Rattle.prolly_check.proofs.verdict.digests.digests_of.Goals as goal

pub loop-number-init : goal.loop-number-init
loop-number-init c = rw c.in_ok-digests.ensures.items (has_none (IsDigest c.args.version c.args.cut)
    (chunks_in c.args.bytes.now c.args.spans.now) 0 refl)

pub loop-number-preserved : goal.loop-number-preserved
loop-number-preserved c = rw c.in_ok-push.ensures.items
    (has_more (IsDigest c.args.version c.args.cut) (chunks_in c.args.bytes.now c.args.spans.now)
    c.loop-number.number c.loop-number.digests.items c.digest_at-digest.result c.loop-number.invariant
    (omega (arith, length-map c.args.spans.now (chunk_in c.args.bytes.now)))
    (c.digest_at-digest.ensures.whole (search rules)))

pub returns-then-not-digest : goal.returns-then-not-digest
returns-then-not-digest c =
    let many = length-map c.args.spans.now (chunk_in c.args.bytes.now) in
    stops_there c.args.version c.args.cut (chunks_in c.args.bytes.now c.args.spans.now)
    c.loop-number.number c.loop-number.digests.items c.loop-number.invariant (omega (arith, many))
    (λ less. c.digest_at-digest.ensures.broken (search rules))

pub returns : goal.returns
returns c =
    let many = length-map c.args.spans.now (chunk_in c.args.bytes.now) in
    stops_there c.args.version c.args.cut (chunks_in c.args.bytes.now c.args.spans.now)
    c.loop-number.number c.loop-number.digests.items c.loop-number.invariant
    (omega (arith, many, c.loop-number.auto.number-end))
    (λ less. absurd (omega (arith, many, c.loop-number-test.false)))
