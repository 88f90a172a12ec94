use Rattle.std.proofs.Common.{arith}
use Rattle.std.proofs.lemmas.Grind.{common_steps}
use Rattle.prolly_c.proofs.Entries.{end_begins, seeks_here, seeks_more, seeks_none, seeks_on}
use Rattle.prolly_c.proofs.leaf.entries_from.Goals as goal

pub returns-in_default-clause-leaf : goal.returns-in_default-clause-leaf
returns-in_default-clause-leaf c = seeks_on c.args.from.now c.args.entries.now c.loop-key.left.now
    (grind (arith, common_steps)) c.in_default.ensures.none c.loop-key.invariant.seeks

pub returns-then-not-is_lt-clause-leaf : goal.returns-then-not-is_lt-clause-leaf
returns-then-not-is_lt-clause-leaf c = seeks_here c.args.from.now c.args.entries.now
    c.loop-key.left.now c.in-Some.rest.now _ c.in-Some.ensures.some (grind (arith, common_steps))
    c.loop-key.invariant.seeks

pub loop-key-preserved : goal.loop-key-preserved
loop-key-preserved c = record {
  seeks = seeks_more c.args.from.now c.args.entries.now c.loop-key.left.now c.in-Some.rest.now _
      c.in-Some.ensures.some (grind (arith, common_steps)) c.loop-key.invariant.seeks;
  end = end_begins c.args.entries.now c.loop-key.left.now c.in-Some.rest.now _
      c.loop-key.invariant.end c.in-Some.ensures.some;
}

pub returns-clause-leaf : goal.returns-clause-leaf
returns-clause-leaf c = seeks_none c.args.from.now c.args.entries.now c.loop-key.left.now
    (grind (arith, common_steps)) c.loop-key.invariant.seeks
