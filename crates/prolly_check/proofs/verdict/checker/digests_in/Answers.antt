use Rattle.std.proofs.Common.{◌≡◌, ◌∙◌, arith, inr, length}
use Rattle.std.proofs.lemmas.List.{length-map}
use Rattle.prolly_check.specs.Frames.{chunk_in, chunks_in}
use Rattle.prolly_check.proofs.DigestLists.{first_bad}
use Rattle.prolly_check.proofs.verdict.checker.digests_in.Goals as goal

pub returns-then-count-spans-clause-err : goal.returns-then-count-spans-clause-err
returns-then-count-spans-clause-err g c =
    let digests = c.in_ok-digests.digests in
    let count : c.len-count.result ≡ length digests.items = c.len-count.ensures ∙ digests.ok.0 in
    rw count (inr (first_bad c.args.header.version c.cut_of.result
    (chunks_in c.args.bytes.now c.args.spans.now) digests.items c.in_ok-digests.ensures
    (omega (
      arith,
      count,
      c.if-count-spans.true,
      length-map c.args.spans.now (chunk_in c.args.bytes.now),
    ))))
