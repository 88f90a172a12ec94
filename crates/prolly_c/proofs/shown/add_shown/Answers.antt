use Rattle.std.proofs.Common.{◌∙◌, ◌++◌, arith, subst, sym}
use Rattle.std.proofs.lemmas.Grind.{common_steps}
use Rattle.std.proofs.lemmas.List.{length-append}
use Rattle.std.specs.Option.{option_copied}
use Rattle.prolly_look_up.specs.Entries.{IsLeaf}
use Rattle.prolly_entry.specs.lemmas.Lists.{rest_is}
use Rattle.prolly_range.specs.KeySet.{pairs_wanted}
use Rattle.prolly_range.specs.KeySet.KeySet.{Range}
use Rattle.prolly_c.proofs.Entries.{end_back}
use Rattle.prolly_c.proofs.RangeParts.{wanted_begins, wanted_spelled}
use Rattle.prolly_c.proofs.ShownPairs.{leaf_shows}
use Rattle.prolly_c.specs.Writing.{Spells}
use Rattle.prolly_c.proofs.shown.add_shown.Goals as goal

pub returns-in_default-clause-wrote : goal.returns-in_default-clause-wrote
returns-in_default-clause-wrote c = λ version done pairs end shows wrote.
    let chunk = c.args.chunk.now in
    let l = leaf_shows version c.args.from.now (option_copied c.args.to) chunk pairs shows
    (grind (arith, common_steps)) (grind (arith, common_steps)) in
    absurd (c.in_default.ensures.leaf l.all
    (subst (λ x. IsLeaf x l.all) (sym (rest_is chunk 1)) l.leaf) l.rise)

pub returns-clause-wrote : goal.returns-clause-wrote
returns-clause-wrote c = λ version done pairs end shows wrote.
    let chunk = c.args.chunk.now in
    let behind = c.args.behind.now in
    let wanted = c.in-Ok.wanted.now in
    let beyond = c.in-Ok.beyond.now in
    let l = leaf_shows version c.args.from.now (option_copied c.args.to) chunk pairs shows
    (grind (arith, common_steps)) (grind (arith, common_steps)) in
    let parts = c.in-Ok.ensures.leaf l.all
    (subst (λ x. IsLeaf x l.all) (sym (rest_is chunk 1)) l.leaf) l.rise in
    let begins = wanted_begins c.args.rest.now chunk behind _ wanted c.requires.frame
    (grind (arith, common_steps)) (rest_is chunk 1) c.in-Ok.ensures.end.0 in
    let spelled = wanted_spelled c.args.from.now (option_copied c.args.to) l.all wanted beyond behind
    l.rise parts.0 parts.1 in
    c.add_leaf.ensures.wrote done pairs (beyond ++ behind)
    (end_back c.args.proof.now c.args.rest.now c.split_at.result.1.now _ end c.split_at.ensures.back)
    (subst (λ ps. Spells c.split_at.result.1.now ps (beyond ++ behind)) (sym l.are)
    (subst (λ x. Spells x (pairs_wanted (Range c.args.from.now (option_copied c.args.to)) l.all)
    (beyond ++ behind)) (sym (c.split_at.ensures.back ∙ begins)) spelled))
    (length-append beyond behind) wrote
