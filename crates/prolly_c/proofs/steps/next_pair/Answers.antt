use Rattle.std.proofs.Common.{arith}
use Rattle.prolly_c.proofs.Cursors.{at_behind, pair_there}
use Rattle.prolly_c.proofs.Entries.{shorter}
use Rattle.prolly_c.proofs.steps.next_pair.Goals as goal

pub returns-in_default-clause-steps : goal.returns-in_default-clause-steps
returns-in_default-clause-steps c = λ pairs at. c.in_default.ensures.at c.args.bytes.now pairs at

pub returns-in_err-bytes_between-clause-steps : goal.returns-in_err-bytes_between-clause-steps
returns-in_err-bytes_between-clause-steps c = λ pairs at.
    let inside = c.in-Some.ensures.at c.args.bytes.now pairs at in
    absurd (c.in_err-bytes_between.ensures.there inside.0.hand_is.order inside.0.hand_is.within)

pub returns-in_default-split_pair-clause-steps : goal.returns-in_default-split_pair-clause-steps
returns-in_default-split_pair-clause-steps c = λ pairs at.
    let inside = c.in-Some.ensures.at c.args.bytes.now pairs at in
    pair_there c.args.bytes.now c.args.runs.now c.in-Some.field-0 pairs _ inside.0 inside.1
    (c.in_ok-bytes_between.ensures.there inside.0.hand_is.order inside.0.hand_is.within)
    c.in_default-split_pair.ensures.none

pub returns-clause-steps : goal.returns-clause-steps
returns-clause-steps c = λ pairs at.
    let inside = c.in-Some.ensures.at c.args.bytes.now pairs at in
    at_behind c.args.bytes.now c.args.runs.now c.in-Some.field-0 pairs _ _ _ c.saturating_sub.result
    inside.0 (c.in_ok-bytes_between.ensures.there inside.0.hand_is.order inside.0.hand_is.within)
    c.in-Some-split_pair.ensures.some c.saturating_sub.ensures

pub returns-clause-nearer : goal.returns-clause-nearer
returns-clause-nearer c =
    let less = shorter c.in_ok-bytes_between.field-0.now c.in-Some-split_pair.rest.now _
    c.in-Some-split_pair.ensures.some in
    let size = c.in_ok-bytes_between.ensures.len in
    let same = c.in-Some.ensures.weight in
    let at = c.saturating_sub.ensures in
    omega arith
