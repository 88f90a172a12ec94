use Rattle.std.proofs.Common.{arith}
use Rattle.prolly_look_up.specs.lemmas.EntryLists.{leaf_more, leaf_less, leaf_left}
use Rattle.prolly_look_up.proofs.entries.is_leaf.Goals as goal

pub loop-rest-preserved : goal.loop-rest-preserved
loop-rest-preserved c = (
  λ l. leaf_less c.loop-rest.entries.now c.in-Some.rest.now _ c.in-Some.ensures.some
      (c.loop-rest.invariant.0 l),
  λ l. c.loop-rest.invariant.1 (leaf_more c.loop-rest.entries.now c.in-Some.rest.now _
      c.in-Some.ensures.some l),
)

pub returns-clause-other : goal.returns-clause-other
returns-clause-other c = grind (arith, leaf_left)
