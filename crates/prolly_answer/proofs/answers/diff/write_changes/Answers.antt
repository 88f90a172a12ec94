use Rattle.std.proofs.Common.{refl}
use Rattle.std.proofs.lemmas.Result.{err_from_is_err_and}
use Rattle.prolly_answer.proofs.DiffSteps.{none_written}
use Rattle.prolly_answer.proofs.DiffSteps.{change_lawful, room_for_one, one_written, stopped_short}
use Rattle.prolly_answer.proofs.DiffSteps.{write_failed, only_counted, all_written, flush_failed}
use Rattle.prolly_answer.proofs.Writing.{own_writes, own_nothing}
use Rattle.prolly_answer.proofs.answers.diff.write_changes.Goals as goal

pub count-requires : goal.count-requires
count-requires g c = room_for_one g.W.Sink.seen _ _ _ _ _ _ _ _ c.in-Some.ensures
    c.args.sink.now c.loop-change.sink c.loop-change.invariant c.requires.few

pub append_change-requires : goal.append_change-requires
append_change-requires g c = change_lawful g.W.Sink.seen _ _ _ _ _ _ _ _ c.in-Some.ensures
    c.args.sink.now c.loop-change.sink c.loop-change.invariant c.requires.before c.requires.after

pub returns-in_err-append_change-clause-err : goal.returns-in_err-append_change-clause-err
returns-in_err-append_change-clause-err g c =
    let p = err_from_is_err_and c.from_residual.result c.from_residual.ensures.1 in
    rw (p.1, p.2) (stopped_short g.W.Sink.seen _ _ _ _ _ _ _ _
    c.in-Some.ensures c.args.sink.now c.loop-change.sink c.loop-change.invariant
    c.in_err-append_change.ensures.err)

pub returns-in_err-write_all-clause-err : goal.returns-in_err-write_all-clause-err
returns-in_err-write_all-clause-err g c =
    let p = err_from_is_err_and c.from_residual-in_err-write_all.result
    c.from_residual-in_err-write_all.ensures.1 in
    rw (p.1, p.2) (write_failed g.W.Sink.seen _ _ _ _ _ _ _ _
    c.in-Some.ensures c.args.sink.now c.loop-change.sink c.loop-change.invariant _
    c.write_all.new.sink
    (own_writes _ _ _ _ _ _ _ c.deref.ensures.value c.in_ok-append_change.ensures.ok
    c.clear.ensures.items c.in_err-write_all.ensures.writes)
    (λ none. c.write_all.ensures.nothing (own_nothing _ _ _ _ c.deref.ensures.value
    c.in_ok-append_change.ensures.ok c.clear.ensures.items none)))

pub loop-change-preserved : goal.loop-change-preserved
loop-change-preserved g c = one_written g.W.Sink.seen _ _ _ _ _ _ _ _ c.in-Some.ensures
    c.args.sink.now c.loop-change.sink c.loop-change.invariant _ c.write_all.new.sink
    c.count.new.self
    (λ records so_far had. c.count.ensures _ records _ so_far had refl)
    (own_writes _ _ _ _ _ _ _ c.deref.ensures.value c.in_ok-append_change.ensures.ok c.clear.ensures.items
    c.in_ok-write_all.ensures.writes)
    (λ none. c.write_all.ensures.nothing (own_nothing _ _ _ _ c.deref.ensures.value
    c.in_ok-append_change.ensures.ok c.clear.ensures.items none))

pub loop-change-init : goal.loop-change-init
loop-change-init g c = none_written g.W.Sink.seen c.args.form c.args.changes c.args.sink.now
    c.none-counts.result c.requires.maps c.none-counts.ensures

pub returns-clause-ok : goal.returns-clause-ok
returns-clause-ok g c = all_written g.W.Sink.seen c.args.form c.args.changes _
    c.loop-change.counts c.args.sink.now c.loop-change.sink c.loop-change.invariant
    c.in_default.ensures.same c.flush.new.self c.in_ok-flush.ensures.bytes
    _ c.in-Some-form.is c.in_ok-flush.ensures.failures c.in_ok-flush.ensures.settled
    c.in_ok-flush.ensures.keeping

pub returns-in_err-flush-clause-err : goal.returns-in_err-flush-clause-err
returns-in_err-flush-clause-err g c =
    let p = err_from_is_err_and c.from_residual-in_err-flush.result
    c.from_residual-in_err-flush.ensures.1 in
    rw (p.1, p.2) (flush_failed g.W.Sink.seen c.args.form c.args.changes _
    c.loop-change.counts c.args.sink.now c.loop-change.sink c.loop-change.invariant
    c.in_default.ensures.same c.flush.new.self c.in_err-flush.ensures.bytes
    _ c.in-Some-form.is c.in_err-flush.ensures.failures)

pub returns-in_default-form-clause-ok : goal.returns-in_default-form-clause-ok
returns-in_default-form-clause-ok g c = only_counted g.W.Sink.seen c.args.form c.args.changes _
    c.loop-change.counts c.args.sink.now c.loop-change.sink c.loop-change.invariant
    c.in_default.ensures.same c.in_default-form.is
