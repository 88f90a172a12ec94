use Rattle.std.proofs.Common.{rules, arith, inr}
use Rattle.std.proofs.Math.Logic.{⊎_map}
use Rattle.std.proofs.lemmas.Result.{err_from_is_err_and}
use Rattle.prolly_check.proofs.DigestLists.{digests_refer}
use Rattle.prolly_check.proofs.CheckedFile.{chunks_say, some_chunks, end_says, all_say}
use Rattle.prolly_check.proofs.verdict.checker.test_canonical.Goals as goal

pub returns-in_err-test_followed-clause-err : goal.returns-in_err-test_followed-clause-err
returns-in_err-test_followed-clause-err c =
    let p = err_from_is_err_and c.from_residual-in_err-test_followed.result
    c.from_residual-in_err-test_followed.ensures.1 in
    rw (p.1, p.2) (⊎_map (λ memory. memory)
    (chunks_say c.args.version c.args.cut c.args.chunks.now c.in_ok-test_order.ensures.ok
    c.args.end.now c.in_err-test_followed.field-0.0) c.in_err-test_followed.ensures.err)

pub test_end-requires-clause-some : goal.test_end-requires-clause-some
test_end-requires-clause-some c = search (rules, some_chunks)

pub returns-in_err-test_end-clause-err : goal.returns-in_err-test_end-clause-err
returns-in_err-test_end-clause-err c =
    let p = err_from_is_err_and c.from_residual-in_err-test_end.result
    c.from_residual-in_err-test_end.ensures.1 in
    rw (p.1, p.2) (inr (end_says c.args.version c.args.cut c.args.chunks.now
    c.in_ok-test_order.ensures.ok c.args.end.now c.in_ok-test_followed.ensures.ok
    c.in_err-test_end.field-0.0 c.in_err-test_end.ensures.err))

pub returns-clause-ok : goal.returns-clause-ok
returns-clause-ok c = grind (arith, all_say)

pub test_end-requires-clause-references : goal.test_end-requires-clause-references
test_end-requires-clause-references c = rw (c.deref.ensures.value, c.in_ok-references.ensures)
    (digests_refer c.args.version c.args.cut c.args.chunks.now c.args.digests.now c.requires.digests)

pub returns-clause-references : goal.returns-clause-references
returns-clause-references c = rw c.in_ok-references.ensures
    (digests_refer c.args.version c.args.cut c.args.chunks.now c.args.digests.now c.requires.digests)
