use Rattle.std.proofs.Common.{length}
use Rattle.prolly_answer.proofs.DumpSteps.{AreListed}
use Rattle.prolly_answer.proofs.lines.write_lines.Given as goal

abbrev pub invariant-loop-leaf : goal.invariant-loop-leaf
invariant-loop-leaf g l = AreListed g.W.Sink.seen l.notation l.fn.leaves l.leaves l.initial.sink
    l.sink

abbrev pub decreases-loop-leaf : goal.decreases-loop-leaf
decreases-loop-leaf g l = length l.leaves
