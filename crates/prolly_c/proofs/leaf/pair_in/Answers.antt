use Rattle.std.proofs.Common.{arith}
use Rattle.std.proofs.lemmas.Grind.{common_steps}
use Rattle.prolly_c.proofs.Entries.{counts_here, counts_more, counts_none, counts_on}
use Rattle.prolly_c.proofs.leaf.pair_in.Goals as goal

pub returns-in_default : goal.returns-in_default
returns-in_default c = counts_on c.args.number c.loop-left.ahead c.args.entries.now
    c.loop-left.left.now (grind (arith, common_steps)) c.in_default.ensures.none
    c.loop-left.invariant

pub returns-then-ahead-eq0 : goal.returns-then-ahead-eq0
returns-then-ahead-eq0 c = counts_here c.args.number c.loop-left.ahead c.args.entries.now
    c.loop-left.left.now c.in-Some.rest.now _ c.in-Some.ensures.some (grind (arith, common_steps))
    c.loop-left.invariant

pub loop-left-preserved : goal.loop-left-preserved
loop-left-preserved c = counts_more c.args.number c.loop-left.ahead c.args.entries.now
    c.loop-left.left.now c.in-Some.rest.now _ c.in-Some.ensures.some (grind (arith, common_steps))
    c.loop-left.invariant

pub returns : goal.returns
returns c = counts_none c.args.number c.loop-left.ahead c.args.entries.now c.loop-left.left.now
    (grind (arith, common_steps)) c.loop-left.invariant
