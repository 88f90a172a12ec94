use Rattle.std.proofs.Common.{◌∙◌}
use Rattle.prolly_entry.specs.lemmas.Lists.{rest_is}
use Rattle.prolly_look_up.specs.lemmas.HeldPairs.{of_children, of_pairs, some_byte}
use Rattle.prolly_look_up.proofs.step.keys_rise.Goals as goal

pub bounds-chunk-0 : goal.bounds-chunk-0
bounds-chunk-0 c = some_byte c.args.version c.args.chunk.now c.requires

pub returns-then-chunk-eq-LEAF : goal.returns-then-chunk-eq-LEAF
returns-then-chunk-eq-LEAF c =
    let leaf = of_pairs c.args.version c.args.chunk.now c.requires c.if-chunk-eq-LEAF.true in
    rw leaf.kind (rw (c.pairs_of.ensures ∙ leaf.held) at c.pairs_rise.ensures)

pub children_rise-requires : goal.children_rise-requires
children_rise-requires c = rw (rest_is c.args.chunk.now 1)
    (of_children c.args.version c.args.chunk.now c.requires c.if-chunk-eq-LEAF.false).is

pub returns : goal.returns
returns c = rw (of_children c.args.version c.args.chunk.now c.requires
    c.if-chunk-eq-LEAF.false).kind (rw (rest_is c.args.chunk.now 1) at c.children_rise.ensures)
