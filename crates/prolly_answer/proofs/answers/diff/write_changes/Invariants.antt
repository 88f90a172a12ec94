use Rattle.std.proofs.Common.{◌+◌, length}
use Rattle.prolly_answer.proofs.DiffSteps.{IsWritten}
use Rattle.prolly_answer.proofs.answers.diff.write_changes.Given as goal

abbrev pub invariant-loop-change : goal.invariant-loop-change
invariant-loop-change g l = IsWritten g.W.Sink.seen l.fn.form l.fn.changes l.changes l.counts
    l.initial.sink l.sink

abbrev pub decreases-loop-change : goal.decreases-loop-change
decreases-loop-change g l = length l.changes.before + length l.changes.after
