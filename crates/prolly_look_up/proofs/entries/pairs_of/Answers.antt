use Rattle.std.proofs.Common.{◌∙◌, ap, sym}
use Rattle.prolly_entry.specs.lemmas.Lists.{rest_is}
use Rattle.prolly_look_up.specs.Entries.{pairs_in}
use Rattle.prolly_look_up.specs.lemmas.EntryLists.{no_pairs}
use Rattle.prolly_look_up.specs.lemmas.HeldPairs.{of_children, of_pairs, some_byte}
use Rattle.prolly_look_up.proofs.entries.pairs_of.Goals as goal

pub bounds-chunk-0 : goal.bounds-chunk-0
bounds-chunk-0 c = some_byte c.args.version c.args.chunk.now c.requires

pub new-requires : goal.new-requires
new-requires c = rw (rest_is c.args.chunk.now 1)
    (of_pairs c.args.version c.args.chunk.now c.requires c.if-chunk-eq-LEAF.true).is

pub returns-then-chunk-eq-LEAF : goal.returns-then-chunk-eq-LEAF
returns-then-chunk-eq-LEAF c = c.new.ensures ∙ ap pairs_in (rest_is c.args.chunk.now 1) ∙
    sym (of_pairs c.args.version c.args.chunk.now c.requires c.if-chunk-eq-LEAF.true).held

pub returns : goal.returns
returns c = c.new-2.ensures ∙ no_pairs ∙
    sym (of_children c.args.version c.args.chunk.now c.requires c.if-chunk-eq-LEAF.false).held
