use Rattle.std.proofs.Common.{sym, ◌∙◌}
use Rattle.prolly_check.proofs.IndexSteps.{is_passed, is_reused}
use Rattle.prolly_check.proofs.chunks.first_reused.Goals as goal

pub returns-then-contains : goal.returns-then-contains
returns-then-contains c = λ chunks are. is_reused chunks c.args.references.now are
    c.loop-number.number (c.loop-number.invariant chunks are) _ c.loop-number-test.true
    (sym c.contains.ensures.value ∙ c.if-contains.true)

pub loop-number-preserved : goal.loop-number-preserved
loop-number-preserved c = λ chunks are. is_passed chunks c.args.references.now are
    c.loop-number.number (c.loop-number.invariant chunks are) _ c.loop-number-test.true
    (sym c.contains.ensures.value ∙ c.if-contains.false)
