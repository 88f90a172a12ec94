use Rattle.prolly_answer.proofs.RootDiffSteps.{diff_told}
use Rattle.prolly_answer.proofs.answers.root_diff.write_diff.Goals as goal

pub returns-in-Some-clause-ended : goal.returns-in-Some-clause-ended
returns-in-Some-clause-ended g c = diff_told g.W.Sink.seen
    (g.S.ChunkSource.goes_over c.args.old.now) (g.R.ChunkSource.goes_over c.args.new.now)
    c.args.diff.now.version c.args.diff.now.old.now.0 c.args.diff.now.new.now.0
    c.args.diff.now.form c.in-Some.field-0 c.in-Some.is c.args.sink.now
    c.write_changes-outcome.new.sink c.settled.new.sink c.args.diff.now.stat
    c.write_changes-outcome.result c.settled.result c.write_changes-outcome.ensures.ended
    c.settled.ensures

pub returns-in-None-clause-ended : goal.returns-in-None-clause-ended
returns-in-None-clause-ended g c =
    rw c.in-None.is (rw c.in-None.is at c.write_changes-outcome.ensures.ended)
