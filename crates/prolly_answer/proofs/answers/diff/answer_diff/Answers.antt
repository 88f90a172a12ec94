use Rattle.std.proofs.Common.{◌≡◌, inl, inr, refl}
use Rattle.std.proofs.lemmas.Result.{IfOk-weaker}
use Rattle.prolly_answer.specs.Diff.{AreStopped, AreWritten}
use Rattle.prolly_answer.specs.Outputs.{TookAll, TookUntil}
use Rattle.prolly_fault.specs.declared.fault.Fault.TheVariants.{CheckOld, CheckNew}
use Rattle.prolly_answer.proofs.Answering.{cut_off, failed_read, looked_up, no_file, stopped}
use Rattle.prolly_answer.proofs.DiffSteps.{all_shown, changes_so, few_changes, unshown}
use Rattle.prolly_answer.proofs.answers.diff.answer_diff.Goals as goal

pub write_changes-requires-clause-few : goal.write_changes-requires-clause-few
write_changes-requires-clause-few g c = few_changes _ _ _ _ _ _ c.new-changes.result refl refl
    c.in-Ok.ensures.accepted c.in-Ok-check_by.ensures.accepted c.in-Ok.ensures.within
    c.in-Ok-check_by.ensures.within (λ failed. failed) (λ failed. failed)
    c.new-changes.ensures.before c.new-changes.ensures.after

pub returns-in-Ok-write_changes-clause-ok : goal.returns-in-Ok-write_changes-clause-ok
returns-in-Ok-write_changes-clause-ok g c = λ honest honest'.
    all_shown _ _ _ _ _ _ c.new-changes.result (c.in-Ok.ensures.same honest)
    (c.in-Ok-check_by.ensures.same honest') c.in-Ok.ensures.accepted c.in-Ok-check_by.ensures.accepted
    c.in-Ok.ensures.within c.in-Ok-check_by.ensures.within
    (λ failed. failed c.in-Ok.ensures.unfailed) (λ failed. failed c.in-Ok-check_by.ensures.unfailed)
    c.new-changes.ensures.before c.new-changes.ensures.after
    c.answer_of.result
    (AreWritten c.args.form
    (λ bytes. TookAll g.W.Sink.seen bytes c.args.sink.now c.write_changes.new.sink)
    (c.write_changes.new.sink ≡ c.args.sink.now))
    c.in-Ok-write_changes.counts c.args.stat _ c.answer_of.ensures
    c.in-Ok-write_changes.ensures.ok

pub returns-in-Ok-write_changes-clause-err : goal.returns-in-Ok-write_changes-clause-err
returns-in-Ok-write_changes-clause-err g c = λ honest honest'.
    unshown _ _ _ _ _ _ c.new-changes.result (c.in-Ok.ensures.same honest)
    (c.in-Ok-check_by.ensures.same honest') c.in-Ok.ensures.accepted c.in-Ok-check_by.ensures.accepted
    c.in-Ok.ensures.within c.in-Ok-check_by.ensures.within
    (λ failed. failed c.in-Ok.ensures.unfailed) (λ failed. failed c.in-Ok-check_by.ensures.unfailed)
    c.new-changes.ensures.before c.new-changes.ensures.after
    c.answer_of.result g.W.Sink.seen c.args.form _ c.args.sink.now c.write_changes.new.sink
    c.in-Ok-write_changes.ensures.ok

pub returns-clause-ok : goal.returns-clause-ok
returns-clause-ok g c = λ honest honest'.
    cut_off _
    (AreStopped c.args.form
    (λ fault bytes. TookUntil g.W.Sink.seen fault bytes c.args.sink.now c.write_changes.new.sink))
    _ _ c.of_fault-in-Err-write_changes.result c.in-Err-write_changes.fault c.from.result
    (changes_so _ _ _ _ _ _ c.new-changes.result (c.in-Ok.ensures.same honest)
    (c.in-Ok-check_by.ensures.same honest') c.in-Ok.ensures.accepted c.in-Ok-check_by.ensures.accepted
    c.in-Ok.ensures.within c.in-Ok-check_by.ensures.within
    (λ failed. failed c.in-Ok.ensures.unfailed) (λ failed. failed c.in-Ok-check_by.ensures.unfailed)
    c.new-changes.ensures.before c.new-changes.ensures.after
    _ c.in-Err-write_changes.ensures.err) c.from.ensures
    c.of_fault-in-Err-write_changes.ensures

pub returns-clause-err : goal.returns-clause-err
returns-clause-err g c = λ honest honest'.
    stopped _
    (AreStopped c.args.form
    (λ fault bytes. TookUntil g.W.Sink.seen fault bytes c.args.sink.now c.write_changes.new.sink))
    _ c.of_fault-in-Err-write_changes.result c.in-Err-write_changes.fault
    (changes_so _ _ _ _ _ _ c.new-changes.result (c.in-Ok.ensures.same honest)
    (c.in-Ok-check_by.ensures.same honest') c.in-Ok.ensures.accepted c.in-Ok-check_by.ensures.accepted
    c.in-Ok.ensures.within c.in-Ok-check_by.ensures.within
    (λ failed. failed c.in-Ok.ensures.unfailed) (λ failed. failed c.in-Ok-check_by.ensures.unfailed)
    c.new-changes.ensures.before c.new-changes.ensures.after
    _ c.in-Err-write_changes.ensures.err)

pub returns-in-Err-clause-ok : goal.returns-in-Err-clause-ok
returns-in-Err-clause-ok g c = λ honest honest'. IfOk-weaker c.of_fault.result _ _
    (λ answer no. inr (inr (inl no, refl)))
    (no_file (λ fault. CheckOld fault) _ _ c.of_fault.result c.in-Err.fault
    (c.in-Err.ensures.refused honest) c.in-Err.ensures.read c.of_fault.ensures)

pub returns-in-Err-clause-read_old : goal.returns-in-Err-clause-read_old
returns-in-Err-clause-read_old g c = λ failed. (
  refl,
  failed_read (λ fault. CheckOld fault) _ c.of_fault.result c.in-Err.fault
      c.in-Err.ensures.read failed c.of_fault.ensures,
)

pub returns-in-Err-check_by-clause-ok : goal.returns-in-Err-check_by-clause-ok
returns-in-Err-check_by-clause-ok g c = λ honest honest'.
    IfOk-weaker c.of_fault-in-Err-check_by.result _ _
    (λ answer no. inr (inr (
      inr (
        looked_up _ _ _ _ (c.in-Ok.ensures.same honest) c.in-Ok.ensures.accepted
            c.in-Ok.ensures.within (λ failed. failed c.in-Ok.ensures.unfailed) (λ content is. tt),
        no,
      ),
      refl,
    )))
    (no_file (λ fault. CheckNew fault) _ _ c.of_fault-in-Err-check_by.result c.in-Err-check_by.fault
    (c.in-Err-check_by.ensures.refused honest') c.in-Err-check_by.ensures.read
    c.of_fault-in-Err-check_by.ensures)

pub returns-in-Err-check_by-clause-read_new : goal.returns-in-Err-check_by-clause-read_new
returns-in-Err-check_by-clause-read_new g c = λ failed. (
  refl,
  failed_read (λ fault. CheckNew fault) _ c.of_fault-in-Err-check_by.result c.in-Err-check_by.fault
      c.in-Err-check_by.ensures.read failed c.of_fault-in-Err-check_by.ensures,
)

pub returns-in-Err-clause-read_new : goal.returns-in-Err-clause-read_new
returns-in-Err-clause-read_new g c = λ failed. absurd (failed refl)

pub returns-in-Err-check_by-clause-read_old : goal.returns-in-Err-check_by-clause-read_old
returns-in-Err-check_by-clause-read_old g c = λ failed. absurd (failed c.in-Ok.ensures.unfailed)

pub returns-in-Ok-write_changes-clause-read_old : goal.returns-in-Ok-write_changes-clause-read_old
returns-in-Ok-write_changes-clause-read_old g c = λ failed.
    absurd (failed c.in-Ok.ensures.unfailed)

pub returns-in-Ok-write_changes-clause-read_new : goal.returns-in-Ok-write_changes-clause-read_new
returns-in-Ok-write_changes-clause-read_new g c = λ failed.
    absurd (failed c.in-Ok-check_by.ensures.unfailed)

pub returns-clause-read_old : goal.returns-clause-read_old
returns-clause-read_old g c = λ failed. absurd (failed c.in-Ok.ensures.unfailed)

pub returns-clause-read_new : goal.returns-clause-read_new
returns-clause-read_new g c = λ failed. absurd (failed c.in-Ok-check_by.ensures.unfailed)
