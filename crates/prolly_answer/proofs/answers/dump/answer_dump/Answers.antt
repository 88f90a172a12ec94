use Rattle.std.proofs.Common.{inl, inr, refl}
use Rattle.std.proofs.lemmas.Result.{IfOk-weaker}
use Rattle.prolly_answer.specs.Dump.{IsDumped, IsStoppedDump}
use Rattle.prolly_answer.specs.Outputs.{TookUntil}
use Rattle.prolly_fault.specs.declared.fault.Fault.TheVariants.{Check}
use Rattle.prolly_answer.proofs.Answering.{cut_off, failed_read, looked_up, no_file, stopped}
use Rattle.prolly_answer.proofs.answers.dump.answer_dump.Goals as goal

pub returns-in-Err-clause-ok : goal.returns-in-Err-clause-ok
returns-in-Err-clause-ok g c = λ honest. IfOk-weaker c.of_fault.result _ _
    (λ answer no. inr (inr (no, refl)))
    (no_file (λ fault. Check fault) _ _ c.of_fault.result c.in-Err.fault
    (c.in-Err.ensures.refused honest) c.in-Err.ensures.read c.of_fault.ensures)

pub returns-in-Err-clause-read : goal.returns-in-Err-clause-read
returns-in-Err-clause-read g c = λ failed. (
  refl,
  failed_read (λ fault. Check fault) _ c.of_fault.result c.in-Err.fault c.in-Err.ensures.read failed c.of_fault.ensures,
)

pub returns-in-Ok-write_pairs-clause-ok : goal.returns-in-Ok-write_pairs-clause-ok
returns-in-Ok-write_pairs-clause-ok g c = λ honest. inl (
  looked_up _ _ _ _ (c.in-Ok.ensures.same honest) c.in-Ok.ensures.accepted c.in-Ok.ensures.within
      (λ failed. failed c.in-Ok.ensures.unfailed)
      (λ content is. c.in-Ok-write_pairs.ensures.ok content is),
  c.of_done.ensures,
)

pub returns-clause-ok : goal.returns-clause-ok
returns-clause-ok g c = λ honest. cut_off (IsDumped _ _)
    (IsStoppedDump c.args.form
    (λ fault bytes. TookUntil g.W.Sink.seen fault bytes c.args.sink.now c.write_pairs.new.sink))
    _ _ c.of_fault-in-Err-write_pairs.result c.in-Err-write_pairs.fault c.from.result
    (looked_up _ _ _ _ (c.in-Ok.ensures.same honest) c.in-Ok.ensures.accepted
    c.in-Ok.ensures.within (λ failed. failed c.in-Ok.ensures.unfailed)
    (λ content is. c.in-Err-write_pairs.ensures.err content is)) c.from.ensures
    c.of_fault-in-Err-write_pairs.ensures

pub returns-clause-err : goal.returns-clause-err
returns-clause-err g c = λ honest. stopped (IsDumped _ _)
    (IsStoppedDump c.args.form
    (λ fault bytes. TookUntil g.W.Sink.seen fault bytes c.args.sink.now c.write_pairs.new.sink))
    _ c.of_fault-in-Err-write_pairs.result c.in-Err-write_pairs.fault
    (looked_up _ _ _ _ (c.in-Ok.ensures.same honest) c.in-Ok.ensures.accepted
    c.in-Ok.ensures.within (λ failed. failed c.in-Ok.ensures.unfailed)
    (λ content is. c.in-Err-write_pairs.ensures.err content is))
