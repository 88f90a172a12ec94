use Rattle.std.proofs.Common.{◌∙◌}
use Rattle.std.proofs.lemmas.Result.{err_from_is_err_and}
use Rattle.prolly_entry.specs.lemmas.Lists.{rest_is}
use Rattle.prolly_check.specs.Frames.{chunks_in}
use Rattle.prolly_check.proofs.CheckedFile.{at_ending, at_entries, at_read}
use Rattle.prolly_check.proofs.DigestLists.{digests_whole}
use Rattle.prolly_check.proofs.verdict.checker.lay_out.Goals as goal

pub returns-in_err-test_ending-clause-err : goal.returns-in_err-test_ending-clause-err
returns-in_err-test_ending-clause-err g c =
    let p = err_from_is_err_and c.from_residual-in_err-test_ending.result
    c.from_residual-in_err-test_ending.ensures.1 in
    rw (p.1, p.2) (at_ending c.args.bytes.now c.in_ok-header.header
    c.in_ok-frames.frames.spans.items c.in_ok-frames.frames.end c.in_ok-header.ensures.found
    c.in_ok-header.ensures.version c.in_ok-header.ensures.bits c.in_ok-frames.ensures.frames
    c.in_ok-frames.ensures.all _ c.len.result (rest_is c.args.bytes.now c.in_ok-frames.frames.end)
    (c.len.ensures ∙ c.in_ok-frames.frames.spans.ok.0) c.in_err-test_ending.field-0.0
    c.in_err-test_ending.ensures.err)

pub returns-in_err-digests-clause-err : goal.returns-in_err-digests-clause-err
returns-in_err-digests-clause-err g c =
    let p = err_from_is_err_and c.from_residual-in_err-digests.result
    c.from_residual-in_err-digests.ensures.1 in
    rw (p.1, p.2) (at_read c.args.bytes.now c.in_ok-header.header
    c.in_ok-frames.frames.spans.items c.in_ok-frames.frames.end c.in_ok-header.ensures.found
    c.in_ok-header.ensures.version c.in_ok-header.ensures.bits c.in_ok-frames.ensures.frames
    c.in_ok-frames.ensures.all _ c.len.result (rest_is c.args.bytes.now c.in_ok-frames.frames.end)
    (c.len.ensures ∙ c.in_ok-frames.frames.spans.ok.0) c.in_ok-test_ending.ensures.found
    c.in_err-digests.field-0.0 (rw c.deref.ensures.value at c.in_err-digests.ensures.err))

pub returns-clause-ok : goal.returns-clause-ok
returns-clause-ok g c =
    at_entries c.args.bytes.now c.in_ok-header.header c.in_ok-frames.frames.spans.items
    c.in_ok-frames.frames.end c.in_ok-header.ensures.found c.in_ok-header.ensures.version
    c.in_ok-header.ensures.bits c.in_ok-frames.ensures.frames c.in_ok-frames.ensures.all _
    c.len.result (rest_is c.args.bytes.now c.in_ok-frames.frames.end)
    (c.len.ensures ∙ c.in_ok-frames.frames.spans.ok.0) c.in_ok-test_ending.ensures.found
    (digests_whole c.in_ok-header.header.version c.in_ok-header.header.bits
    (chunks_in c.args.bytes.now c.in_ok-frames.frames.spans.items) c.in_ok-digests.digests.items
    (rw c.deref.ensures.value at c.in_ok-digests.ensures.ok))
