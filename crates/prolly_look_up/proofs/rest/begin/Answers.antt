use Rattle.std.proofs.Common.{◌++◌, ◌-◌, ap, length, subst, sym, ◌∙◌}
use Rattle.prolly_entry.specs.lemmas.Lists.{rest_is}
use Rattle.prolly_tree.specs.Difference.{IsMap}
use Rattle.prolly_tree.specs.lemmas.Maps.{map_behind, rises}
use Rattle.prolly_look_up.specs.Entries.{pairs_in}
use Rattle.prolly_look_up.specs.PairsFrom.{pairs_from}
use Rattle.prolly_look_up.specs.lemmas.HeldPairs.{held_rise}
use Rattle.prolly_look_up.specs.lemmas.ReadEntries.{leaf_pairs}
use Rattle.prolly_look_up.specs.lemmas.PairsFrom.{from_behind, left_leaf}
use Rattle.prolly_look_up.specs.lemmas.RisingKeys.{is_less}
use Rattle.prolly_look_up.proofs.rest.begin.Goals as goal

pub new-marked-requires : goal.new-marked-requires
new-marked-requires c = rw (rest_is _ _) (record {
  pairs = c.requires.mark.rest;
  is = left_leaf c.args.version c.args.chunk.now c.requires.ordered.whole c.args.mark c.requires.mark
      _ (rw c.pairs_of-all.ensures at c.spellings-entries.ensures);
})

pub returns-in-Some : goal.returns-in-Some
returns-in-Some c =
    let entries = c.spellings-entries.result.now in
    let mark = c.requires.mark in
    let first = c.in-Some.ensures in
    let marked = c.new-marked.ensures ∙
    ap pairs_in (rest_is entries (length entries - c.args.mark)) ∙ leaf_pairs _ _
    (left_leaf c.args.version c.args.chunk.now c.requires.ordered.whole c.args.mark mark _
    (rw c.pairs_of-all.ensures at c.spellings-entries.ensures)) in
    let are = mark.are ∙ ap (λ ps. mark.before ++ ps) (sym marked ∙ first.1) in
    let rise = subst IsMap are (held_rise c.args.version c.args.chunk.now c.requires.ordered) in
    rw first.1 (record {
      end = (mark.before, are);
      same = ap (pairs_from c.args.from.now) are ∙ from_behind c.args.from.now mark.before _ first.0
          (rises _ rise) (sym c.key_order.ensures ∙
          is_less c.key_order.result (sym c.is_lt.ensures ∙ c.if-is_lt.true));
      rising = map_behind mark.before _ rise;
    })
