use Rattle.std.proofs.Common.{ap, arith}
use Rattle.std.proofs.lemmas.Grind.{common_steps}
use Rattle.prolly_range.specs.KeySet.KeySet.{Range}
use Rattle.prolly_c.proofs.RangeRuns.{has_runs}
use Rattle.prolly_c.proofs.verify_range.prolly_verify_range.Goals as goal

pub returns-then-runs-index-clause-counted : goal.returns-then-runs-index-clause-counted
returns-then-runs-index-clause-counted c = λ done. has_runs c.args.version c.args.root.now _ _
    c.args.proof.now c.shown_index.new.out c.in-Ok.runs c.in-Some.format
    (grind (arith, common_steps)) (ap (Range c.args.from.now) c.bound.ensures) c.in-Ok.ensures.ok

pub returns-else-runs-index-clause-counted : goal.returns-else-runs-index-clause-counted
returns-else-runs-index-clause-counted c = λ done. has_runs c.args.version c.args.root.now _ _
    c.args.proof.now c.shown_index.new.out c.in-Ok.runs c.in-Some.format
    (grind (arith, common_steps)) (ap (Range c.args.from.now) c.bound.ensures) c.in-Ok.ensures.ok
