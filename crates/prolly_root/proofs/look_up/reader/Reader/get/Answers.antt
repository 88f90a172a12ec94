use Rattle.std.proofs.Common.{ap, option_map, take, ◌∙◌}
use Rattle.prolly_look_up.specs.Way.{IsWay}
use Rattle.prolly_look_up.specs.lemmas.HeldPairs.{held_rise}
use Rattle.prolly_tree.specs.LookUp.{find}
use Rattle.prolly_tree.specs.lemmas.Maps.{rises}
use Rattle.prolly_root.proofs.Descending.{find_from, finds, hands_on, looks_up_so, some_way}
use Rattle.prolly_root.proofs.look_up.reader.Reader.get.Goals as goal

pub leaf_from-requires : goal.leaf_from-requires
leaf_from-requires g c = some_way c.in_ok-descend.ensures.found

pub returns-in_err-descend-clause-looked : goal.returns-in_err-descend-clause-looked
returns-in_err-descend-clause-looked g c = looks_up_so c.in_err-descend.field-0.0
    c.from_residual.result c.from_residual.ensures c.in_err-descend.ensures.looked

pub returns-clause-looked : goal.returns-clause-looked
returns-clause-looked g c = hands_on c.first_value-value.result c.hand_on.result c.hand_on.ensures.ok
    c.hand_on.ensures.err c.in_ok-descend.ensures.looked

pub returns-clause-found : goal.returns-clause-found
returns-clause-found g c =
    let way = c.in_ok-descend.ensures.found.way in
    finds c.descend.new.self _ c.first_value-value.result c.hand_on.result c.hand_on.ensures.ok
    c.hand_on.ensures.err _ (λ value chunks. IsWay c.args.self.now.version c.args.self.now.root
    c.args.key.now chunks (option_map (λ v. v.items) value)) (λ value is. record {
      way = way;
      value_is = is ∙ ap (λ ps. find (take 1 ps) c.args.key.now)
          (c.leaf_from.ensures way.before way.last way.are) ∙ find_from c.args.key.now _
          (rises _ (held_rise c.args.self.now.version way.last way.named.ordered));
    }) c.first_value-value.ensures
