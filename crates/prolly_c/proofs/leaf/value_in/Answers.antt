use Rattle.std.proofs.Common.{arith}
use Rattle.std.proofs.lemmas.Grind.{common_steps}
use Rattle.prolly_c.proofs.Entries.{finds_here, finds_more, finds_none, finds_on}
use Rattle.prolly_c.proofs.leaf.value_in.Goals as goal

pub returns-in_default : goal.returns-in_default
returns-in_default c = finds_on c.args.key.now c.args.entries.now c.loop-left.left.now
    (grind (arith, common_steps)) c.in_default.ensures.none c.loop-left.invariant

pub returns-then-is_eq : goal.returns-then-is_eq
returns-then-is_eq c = finds_here c.args.key.now c.args.entries.now c.loop-left.left.now
    c.in-Some.rest.now _ c.in-Some.ensures.some (grind (arith, common_steps)) c.loop-left.invariant

pub loop-left-preserved : goal.loop-left-preserved
loop-left-preserved c = finds_more c.args.key.now c.args.entries.now c.loop-left.left.now
    c.in-Some.rest.now _ c.in-Some.ensures.some (grind (arith, common_steps)) c.loop-left.invariant

pub returns : goal.returns
returns c = finds_none c.args.key.now c.args.entries.now c.loop-left.left.now
    (grind (arith, common_steps)) c.loop-left.invariant
