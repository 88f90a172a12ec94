use Rattle.std.proofs.Common.{◌∙◌, refl}
use Rattle.prolly_fault.specs.declared.fault.Fault.TheVariants.{Memory, RootNew, RootOld}
use Rattle.prolly_answer.proofs.RootDiffSteps.{WrotePart, WroteSoFar, all_told, begins, gave_so_far}
use Rattle.prolly_answer.proofs.RootDiffSteps.{goes_on, memory_stopped, memory_tells, new_memory}
use Rattle.prolly_answer.proofs.RootDiffSteps.{none_gave, wrote_none}
use Rattle.prolly_answer.proofs.RootDiffSteps.{new_write, old_memory, old_write, output_new, output_old}
use Rattle.prolly_answer.proofs.RootDiffSteps.{refuses_new, refuses_old, told_reads, unwritten}
use Rattle.prolly_answer.proofs.RootDiffSteps.{walk_stopped, walk_tells_new, walk_tells_old}
use Rattle.prolly_answer.proofs.RootDiffSteps.{walks_first, walks_further, walks_to_end}
use Rattle.prolly_answer.proofs.answers.root_diff.write_changes.Goals as goal

pub walk-init : goal.walk-init
walk-init g c = record {
  version = c.in-Ok.ensures.begun.version_is;
  walking = walks_first g.S.ChunkSource.goes_over g.S.ChunkSource.failures
      g.S.ChunkSource.stands g.R.ChunkSource.goes_over g.R.ChunkSource.failures
      g.R.ChunkSource.stands c.args.diff.now.version c.args.diff.now.old.now.0
      c.args.diff.now.new.now.0 c.args.old.now c.args.new.now c.in-Ok.walk c.in-Ok.ensures.begun
      c.in-Ok.ensures.noted;
  written = begins g.W.Sink.seen c.args.diff.now.form c.args.diff.now.stat c.none-counts.result
      c.none-counts.ensures c.args.sink.now;
}

pub returns-in-Ok-None-clause-ended : goal.returns-in-Ok-None-clause-ended
returns-in-Ok-None-clause-ended g c =
    let told = c.in-Ok-None.ensures.walks in
    all_told g.S.ChunkSource.goes_over g.S.ChunkSource.failures
    g.S.ChunkSource.stands g.R.ChunkSource.goes_over g.R.ChunkSource.failures
    g.R.ChunkSource.stands c.args.diff.now.version c.args.diff.now.old.now.0
    c.args.diff.now.new.now.0 c.args.old.now c.walk.old c.args.new.now c.walk.new c.walk.walk.before
    c.walk.walk.after c.walk.walk.notes c.walk.invariant.walking g.W.Sink.seen
    c.args.diff.now.form c.args.diff.now.stat c.walk.changed c.walk.counts c.args.sink.now
    c.walk.sink c.walk.invariant.written c.walks_are_right.ensures.walks c.next.new.self
    (c.in-Ok-None.ensures.version ∙ c.walk.invariant.version) c.next.new.old c.next.new.new
    (walks_to_end g.S.ChunkSource.goes_over g.S.ChunkSource.failures
    g.S.ChunkSource.stands g.R.ChunkSource.goes_over g.R.ChunkSource.failures
    g.R.ChunkSource.stands c.args.diff.now.version c.args.diff.now.old.now.0
    c.args.diff.now.new.now.0
    c.args.old.now c.args.new.now c.walk.walk.version c.walk.invariant.version c.walk.old
    c.next.new.old c.walk.new c.next.new.new c.walk.walk.before c.next.new.self.before
    c.walk.walk.after c.next.new.self.after c.walk.walk.notes c.next.new.self.notes
    c.walk.invariant.walking c.in-Ok-None.field-0 c.in-Ok-None.ensures.old c.in-Ok-None.ensures.new
    c.in-Ok-None.field-0-is told) refl (rw c.in-Ok-None.field-0-is at told).1
    (rw c.in-Ok-None.field-0-is at told).2 c.told_of.result
    c.told_of.ensures.changed c.told_of.ensures.line c.told_of.ensures.err

pub returns-in-Ok-None-clause-reads_old : goal.returns-in-Ok-None-clause-reads_old
returns-in-Ok-None-clause-reads_old g c = told_reads RootOld old_write _ _ old_memory
    (c.in-Ok-None.ensures.old.failures_are ∙ c.walk.invariant.walking.still.failures_are)
    c.told_of.result c.told_of.ensures.err

pub returns-in-Ok-None-clause-reads_new : goal.returns-in-Ok-None-clause-reads_new
returns-in-Ok-None-clause-reads_new g c = told_reads RootNew new_write _ _ new_memory
    (c.in-Ok-None.ensures.new.failures_are ∙ c.walk.invariant.walking.still'.failures_are)
    c.told_of.result c.told_of.ensures.err

pub returns-in-Err-count-clause-ended : goal.returns-in-Err-count-clause-ended
returns-in-Err-count-clause-ended g c = memory_stopped (g.S.ChunkSource.goes_over c.args.old.now)
    (g.R.ChunkSource.goes_over c.args.new.now) c.args.diff.now.version
    c.args.diff.now.old.now.0 c.args.diff.now.new.now.0
    (WroteSoFar g.W.Sink.seen c.args.diff.now.form c.args.sink.now c.walk.sink)
    (WrotePart g.W.Sink.seen c.args.diff.now.form c.args.sink.now c.walk.sink) c.in-Err-count.fault
    c.in-Err-count.ensures.err
    (gave_so_far g.S.ChunkSource.goes_over g.S.ChunkSource.failures
    g.S.ChunkSource.stands g.R.ChunkSource.goes_over g.R.ChunkSource.failures
    g.R.ChunkSource.stands c.args.diff.now.version c.args.diff.now.old.now.0
    c.args.diff.now.new.now.0 c.args.old.now c.walk.old c.args.new.now c.walk.new c.walk.walk.before
    c.walk.walk.after c.walk.walk.notes c.walk.invariant.walking g.W.Sink.seen
    c.args.diff.now.form c.args.diff.now.stat c.walk.changed c.walk.counts c.args.sink.now
    c.walk.sink c.walk.invariant.written)

pub returns-in-Err-count-clause-reads_old : goal.returns-in-Err-count-clause-reads_old
returns-in-Err-count-clause-reads_old g c = memory_tells RootOld old_write _ _ c.in-Err-count.fault
    c.in-Err-count.ensures.err old_memory
    (c.in-Ok-Some.ensures.old.failures_are ∙ c.walk.invariant.walking.still.failures_are)

pub returns-in-Err-count-clause-reads_new : goal.returns-in-Err-count-clause-reads_new
returns-in-Err-count-clause-reads_new g c = memory_tells RootNew new_write _ _ c.in-Err-count.fault
    c.in-Err-count.ensures.err new_memory
    (c.in-Ok-Some.ensures.new.failures_are ∙ c.walk.invariant.walking.still'.failures_are)

pub returns-in-Err-clause-ended : goal.returns-in-Err-clause-ended
returns-in-Err-clause-ended g c = rw c.fault_of.ensures (walk_stopped (g.S.ChunkSource.goes_over
    c.args.old.now)
    (g.R.ChunkSource.goes_over c.args.new.now) c.args.diff.now.version
    c.args.diff.now.old.now.0 c.args.diff.now.new.now.0
    (WroteSoFar g.W.Sink.seen c.args.diff.now.form c.args.sink.now c.walk.sink)
    (WrotePart g.W.Sink.seen c.args.diff.now.form c.args.sink.now c.walk.sink) c.in-Err.fault
    (gave_so_far g.S.ChunkSource.goes_over g.S.ChunkSource.failures
    g.S.ChunkSource.stands g.R.ChunkSource.goes_over g.R.ChunkSource.failures
    g.R.ChunkSource.stands c.args.diff.now.version c.args.diff.now.old.now.0
    c.args.diff.now.new.now.0 c.args.old.now c.walk.old c.args.new.now c.walk.new c.walk.walk.before
    c.walk.walk.after c.walk.walk.notes c.walk.invariant.walking g.W.Sink.seen
    c.args.diff.now.form c.args.diff.now.stat c.walk.changed c.walk.counts c.args.sink.now
    c.walk.sink c.walk.invariant.written)
    (refuses_old g.S.ChunkSource.goes_over g.S.ChunkSource.failures
    g.S.ChunkSource.stands g.R.ChunkSource.goes_over g.R.ChunkSource.failures
    g.R.ChunkSource.stands c.args.diff.now.version c.args.diff.now.old.now.0
    c.args.diff.now.new.now.0
    c.args.old.now c.args.new.now c.walk.walk.version c.walk.invariant.version c.walk.old
    c.next.new.old c.walk.new c.next.new.new c.walk.walk.before c.next.new.self.before
    c.walk.walk.after c.next.new.self.after c.walk.walk.notes c.next.new.self.notes
    c.walk.invariant.walking c.walks_tell_one_fault.ensures.lawful c.in-Err.fault
    c.in-Err.ensures.walks)
    (refuses_new g.S.ChunkSource.goes_over g.S.ChunkSource.failures
    g.S.ChunkSource.stands g.R.ChunkSource.goes_over g.R.ChunkSource.failures
    g.R.ChunkSource.stands c.args.diff.now.version c.args.diff.now.old.now.0
    c.args.diff.now.new.now.0
    c.args.old.now c.args.new.now c.walk.walk.version c.walk.invariant.version c.walk.old
    c.next.new.old c.walk.new c.next.new.new c.walk.walk.before c.next.new.self.before
    c.walk.walk.after c.next.new.self.after c.walk.walk.notes c.next.new.self.notes
    c.walk.invariant.walking c.walks_tell_one_fault.ensures.lawful c.in-Err.fault
    c.in-Err.ensures.walks))

pub returns-in-Err-clause-reads_old : goal.returns-in-Err-clause-reads_old
returns-in-Err-clause-reads_old g c = rw c.fault_of.ensures
    (walk_tells_old g.S.ChunkSource.goes_over g.S.ChunkSource.failures c.args.old.now c.walk.old
    c.next.new.old c.walk.invariant.walking.still.failures_are c.in-Err.fault
    c.in-Err.ensures.old)

pub returns-in-Err-clause-reads_new : goal.returns-in-Err-clause-reads_new
returns-in-Err-clause-reads_new g c = rw c.fault_of.ensures
    (walk_tells_new g.R.ChunkSource.goes_over g.R.ChunkSource.failures c.args.new.now c.walk.new
    c.next.new.new c.walk.invariant.walking.still'.failures_are c.in-Err.fault
    c.in-Err.ensures.new)

pub returns-in-Err-write_change-clause-ended : goal.returns-in-Err-write_change-clause-ended
returns-in-Err-write_change-clause-ended g c = rw c.from.ensures (unwritten
    g.S.ChunkSource.goes_over g.S.ChunkSource.failures
    g.S.ChunkSource.stands g.R.ChunkSource.goes_over g.R.ChunkSource.failures
    g.R.ChunkSource.stands c.args.diff.now.version c.args.diff.now.old.now.0
    c.args.diff.now.new.now.0 c.args.old.now c.walk.old c.args.new.now c.walk.new c.walk.walk.before
    c.walk.walk.after c.walk.walk.notes c.walk.invariant.walking g.W.Sink.seen
    c.args.diff.now.form c.args.diff.now.stat c.walk.changed c.walk.counts c.args.sink.now
    c.walk.sink c.walk.invariant.written c.in-Ok-Some.change c.next.new.old c.next.new.new
    c.next.new.self.before
    c.next.new.self.after c.next.new.self.notes
    (walks_further g.S.ChunkSource.goes_over g.S.ChunkSource.failures
    g.S.ChunkSource.stands g.R.ChunkSource.goes_over g.R.ChunkSource.failures
    g.R.ChunkSource.stands c.args.diff.now.version c.args.diff.now.old.now.0
    c.args.diff.now.new.now.0
    c.args.old.now c.args.new.now c.walk.walk.version c.walk.invariant.version c.walk.old
    c.next.new.old c.walk.new c.next.new.new c.walk.walk.before c.next.new.self.before
    c.walk.walk.after c.next.new.self.after c.walk.walk.notes c.next.new.self.notes
    c.walk.invariant.walking c.in-Ok-Some.field-0 c.in-Ok-Some.ensures.old c.in-Ok-Some.ensures.new
    c.in-Ok-Some.change c.in-Ok-Some.field-0-is c.in-Ok-Some.ensures.walks) refl
    c.in-Err-write_change.fault c.write_change.new.sink c.in-Err-write_change.ensures)

pub returns-in-Err-write_change-clause-reads_old : goal.returns-in-Err-write_change-clause-reads_old
returns-in-Err-write_change-clause-reads_old g c = rw c.from.ensures (output_old
    c.in-Err-write_change.fault _ _
    (c.in-Ok-Some.ensures.old.failures_are ∙ c.walk.invariant.walking.still.failures_are))

pub returns-in-Err-write_change-clause-reads_new : goal.returns-in-Err-write_change-clause-reads_new
returns-in-Err-write_change-clause-reads_new g c = rw c.from.ensures (output_new
    c.in-Err-write_change.fault _ _
    (c.in-Ok-Some.ensures.new.failures_are ∙ c.walk.invariant.walking.still'.failures_are))

pub walk-preserved : goal.walk-preserved
walk-preserved g c = record {
  version = c.in-Ok-Some.ensures.version ∙ c.walk.invariant.version;
  walking = walks_further g.S.ChunkSource.goes_over g.S.ChunkSource.failures
      g.S.ChunkSource.stands g.R.ChunkSource.goes_over g.R.ChunkSource.failures
      g.R.ChunkSource.stands c.args.diff.now.version c.args.diff.now.old.now.0
      c.args.diff.now.new.now.0
      c.args.old.now c.args.new.now c.walk.walk.version c.walk.invariant.version c.walk.old
      c.next.new.old c.walk.new c.next.new.new c.walk.walk.before c.next.new.self.before
      c.walk.walk.after c.next.new.self.after c.walk.walk.notes c.next.new.self.notes
      c.walk.invariant.walking c.in-Ok-Some.field-0 c.in-Ok-Some.ensures.old
      c.in-Ok-Some.ensures.new
      c.in-Ok-Some.change c.in-Ok-Some.field-0-is c.in-Ok-Some.ensures.walks;
  written = goes_on g.W.Sink.seen c.args.diff.now.form c.args.diff.now.stat
      c.walk.invariant.walking.changes c.walk.changed c.walk.counts c.args.sink.now c.walk.sink
      c.walk.invariant.written c.in-Ok-Some.change c.count.new.counts
      c.in_default-count.ensures.ok c.in_default-write_change.field-0 c.write_change.new.sink
      c.in_default-write_change.ensures;
}

pub returns-in_default-clause-ended : goal.returns-in_default-clause-ended
returns-in_default-clause-ended g c =
    let so = WroteSoFar g.W.Sink.seen c.args.diff.now.form c.args.sink.now c.args.sink.now in
    let part = WrotePart g.W.Sink.seen c.args.diff.now.form c.args.sink.now c.args.sink.now in
    memory_stopped (g.S.ChunkSource.goes_over c.args.old.now)
    (g.R.ChunkSource.goes_over c.args.new.now) c.args.diff.now.version c.args.diff.now.old.now.0
    c.args.diff.now.new.now.0 so part Memory refl
    (none_gave (g.S.ChunkSource.goes_over c.args.old.now)
    (g.R.ChunkSource.goes_over c.args.new.now) c.args.diff.now.version c.args.diff.now.old.now.0
    c.args.diff.now.new.now.0 so part
    (wrote_none g.W.Sink.seen c.args.diff.now.form c.args.sink.now))
