use Rattle.prolly_check.proofs.IndexSteps.{one_numbered}
use Rattle.prolly_check.proofs.chunks.numbered.Goals as goal

pub loop-number-preserved : goal.loop-number-preserved
loop-number-preserved c = one_numbered c.args.references.now c.loop-number.entries.items _
    c.loop-number.number _ c.loop-number-test.true c.loop-number.invariant.0
    c.loop-number.invariant.1 c.in_ok-push.ensures.items
