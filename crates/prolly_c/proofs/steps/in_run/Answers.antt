use Rattle.std.proofs.Common.{arith}
use Rattle.prolly_c.proofs.Cursors.{at_end, at_next}
use Rattle.prolly_c.proofs.Sides.{weight_next}
use Rattle.prolly_c.proofs.steps.in_run.Goals as goal

pub returns-then-cursor-runs-clause-at : goal.returns-then-cursor-runs-clause-at
returns-then-cursor-runs-clause-at c = λ bytes pairs at. at_end bytes c.args.runs.now c.args.cursor pairs at
    (omega arith) (omega arith)

pub returns-clause-at : goal.returns-clause-at
returns-clause-at c = λ bytes pairs at. at_next bytes c.args.runs.now c.args.cursor pairs at (omega arith)
    (omega arith)

pub returns-clause-weight : goal.returns-clause-weight
returns-clause-weight c = weight_next c.args.runs.now c.args.cursor (omega arith) (omega arith)
