use Rattle.std.proofs.lemmas.Result.{err_from_is_err_and}
use Rattle.prolly_check.proofs.LeafRests.{one_dumped, dump_failed}
use Rattle.prolly_check.proofs.tree.write_records.Goals as goal

pub loop-leaf-preserved : goal.loop-leaf-preserved
loop-leaf-preserved g c =
    let own = rw c.spellings.ensures at c.in_ok-write_all.ensures.writes in
    one_dumped _ _ c.in-Some.leaf _ c.in-Some.ensures.next _ _ _ c.loop-leaf.invariant _ own

pub returns-in_err-write_all-clause-written : goal.returns-in_err-write_all-clause-written
returns-in_err-write_all-clause-written g c =
    let p = err_from_is_err_and c.from_residual.result c.from_residual.ensures.1 in
    let own = rw c.spellings.ensures at c.in_err-write_all.ensures.writes in
    rw p.1 (dump_failed _ _ c.in-Some.leaf _ c.in-Some.ensures.next _ _ _ c.loop-leaf.invariant _ _
    own)
