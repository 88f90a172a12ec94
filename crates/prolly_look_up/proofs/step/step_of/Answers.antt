use Rattle.std.proofs.Common.{subst}
use Rattle.prolly_entry.specs.Keys.{Rising}
use Rattle.prolly_look_up.specs.Way.{entry_keys}
use Rattle.prolly_look_up.specs.lemmas.HeldPairs.{of_children, of_pairs}
use Rattle.prolly_look_up.proofs.step.step_of.Goals as goal

pub returns-then-chunk-eq-LEAF-clause-ends : goal.returns-then-chunk-eq-LEAF-clause-ends
returns-then-chunk-eq-LEAF-clause-ends c = rw (of_pairs c.args.version c.args.chunk.now
    c.requires.ordered.whole c.if-chunk-eq-LEAF.true).kind tt

pub child_sought-requires-clause-rising : goal.child_sought-requires-clause-rising
child_sought-requires-clause-rising c = subst (λ entries. Rising (entry_keys entries))
    (of_children c.args.version c.args.chunk.now c.requires.ordered.whole
    c.if-chunk-eq-LEAF.false).kind c.requires.ordered.rising

pub child_sought-requires-clause-node : goal.child_sought-requires-clause-node
child_sought-requires-clause-node c = (of_children c.args.version c.args.chunk.now
    c.requires.ordered.whole c.if-chunk-eq-LEAF.false).is

pub returns-clause-on : goal.returns-clause-on
returns-clause-on c = rw (of_children c.args.version c.args.chunk.now c.requires.ordered.whole
    c.if-chunk-eq-LEAF.false).kind c.child_sought.ensures.some

pub returns-clause-ends : goal.returns-clause-ends
returns-clause-ends c = rw (of_children c.args.version c.args.chunk.now c.requires.ordered.whole
    c.if-chunk-eq-LEAF.false).kind c.child_sought.ensures.none
