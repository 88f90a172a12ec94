use Rattle.std.proofs.lemmas.Result.{err_from_is_err_and}
use Rattle.prolly_answer.proofs.DumpSteps.{leaf_failed, leaf_stopped, none_listed, one_listed}
use Rattle.prolly_answer.proofs.Writing.{own_writes}
use Rattle.prolly_answer.proofs.lines.write_lines.Goals as goal

pub loop-leaf-preserved : goal.loop-leaf-preserved
loop-leaf-preserved g c = one_listed g.W.Sink.seen c.args.notation _ _ c.args.sink.now
    c.loop-leaf.sink
    c.loop-leaf.invariant c.in-Some.leaf _ c.in-Some.ensures.next c.write_all.new.sink _
    (own_writes _ _ _ _ _ _ _ c.deref.ensures.value c.in_ok-append_lines.ensures
    c.clear.ensures.items c.in_ok-write_all.ensures.writes)

pub returns-in_err-write_all-clause-err : goal.returns-in_err-write_all-clause-err
returns-in_err-write_all-clause-err g c =
    let p = err_from_is_err_and c.from_residual-in_err-write_all.result
    c.from_residual-in_err-write_all.ensures.1 in
    rw (p.1, p.2) (leaf_failed g.W.Sink.seen c.args.notation _ _ c.args.sink.now
    c.loop-leaf.sink c.loop-leaf.invariant c.in-Some.leaf _ c.in-Some.ensures.next
    c.write_all.new.sink _
    (own_writes _ _ _ _ _ _ _ c.deref.ensures.value c.in_ok-append_lines.ensures
    c.clear.ensures.items c.in_err-write_all.ensures.writes))

pub loop-leaf-init : goal.loop-leaf-init
loop-leaf-init g c = none_listed g.W.Sink.seen c.args.notation c.args.leaves c.args.sink.now

pub returns-in_err-append_lines-clause-err : goal.returns-in_err-append_lines-clause-err
returns-in_err-append_lines-clause-err g c =
    let p = err_from_is_err_and c.from_residual.result c.from_residual.ensures.1 in
    rw (p.1, p.2) (leaf_stopped g.W.Sink.seen c.args.notation _ _ c.args.sink.now
    c.loop-leaf.sink c.loop-leaf.invariant)
