use Rattle.std.proofs.Common.{ap, refl, take, ◌∙◌}
use Rattle.prolly_look_up.specs.HeldPairs.{pairs_held}
use Rattle.prolly_look_up.specs.PairsFrom.{pairs_from}
use Rattle.prolly_root.specs.Reader.{AreFirstFound}
use Rattle.prolly_root.proofs.Descending.{finds, hands_on, looks_up_so, some_way}
use Rattle.prolly_root.proofs.look_up.reader.Reader.pairs_from.Goals as goal

pub leaf_from-requires : goal.leaf_from-requires
leaf_from-requires g c = some_way c.in_ok-descend.ensures.found

pub returns-in_err-descend-clause-looked : goal.returns-in_err-descend-clause-looked
returns-in_err-descend-clause-looked g c = looks_up_so c.in_err-descend.field-0.0
    c.from_residual.result c.from_residual.ensures c.in_err-descend.ensures.looked

pub returns-clause-looked : goal.returns-clause-looked
returns-clause-looked g c = hands_on c.first_pairs-pairs.result c.hand_on.result c.hand_on.ensures.ok
    c.hand_on.ensures.err c.in_ok-descend.ensures.looked

pub returns-clause-found : goal.returns-clause-found
returns-clause-found g c =
    let from = c.args.from.now in
    let way = c.in_ok-descend.ensures.found.way in
    finds c.descend.new.self _ c.first_pairs-pairs.result c.hand_on.result c.hand_on.ensures.ok
    c.hand_on.ensures.err _ (λ pairs chunks. AreFirstFound c.args.self.now.version
    c.args.self.now.root from c.args.most chunks pairs.items) (λ pairs is. record {
      found = pairs_from from (pairs_held way.last);
      way = record { way = way; found_is = refl };
      are = is ∙ ap (take c.args.most) (c.leaf_from.ensures way.before way.last way.are);
    }) c.first_pairs-pairs.ensures
