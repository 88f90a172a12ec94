use Rattle.std.proofs.Common.{[], arith, get_or, sym, ◌∙◌}
use Rattle.prolly_look_up.specs.HeldPairs.{pairs_held}
use Rattle.prolly_check.proofs.Canonical.{held_from}
use Rattle.prolly_check.proofs.FollowerSteps.{some_there}
use Rattle.prolly_check.proofs.verdict.canonical.has_pairs.Goals as goal

pub returns-then-not-is_empty-clause-some : goal.returns-then-not-is_empty-clause-some
returns-then-not-is_empty-clause-some c = λ told none.
    held_from c.args.chunks.now c.loop-number.number (omega (arith, c.len-number-end.ensures))
    (some_there _ (pairs_held (get_or c.args.chunks.now c.loop-number.number [])) _ c.pairs.ensures
    c.is_empty.ensures c.if-not-is_empty.true) (sym c.loop-number.invariant ∙ none)
