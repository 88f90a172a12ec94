use Rattle.std.proofs.Common.{arith}
use Rattle.prolly_look_up.specs.lemmas.EntryLists.{node_more, node_less, node_left}
use Rattle.prolly_look_up.proofs.entries.is_node.Goals as goal

pub loop-rest-preserved : goal.loop-rest-preserved
loop-rest-preserved c = (
  λ n. node_less c.args.version c.loop-rest.entries.now c.in-Some.rest.now _ c.in-Some.ensures.some
      (c.loop-rest.invariant.0 n),
  λ n. c.loop-rest.invariant.1 (node_more c.args.version c.loop-rest.entries.now c.in-Some.rest.now
      _ c.in-Some.ensures.some n),
)

pub returns-clause-other : goal.returns-clause-other
returns-clause-other c = grind (arith, node_left)
