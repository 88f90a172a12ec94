use Rattle.std.proofs.Common.{◌≡◌, ap, subst, sym, ◌∙◌}
use Rattle.prolly_look_up.specs.HeldPairs.{pairs_held}
use Rattle.prolly_look_up.specs.Sought.{sought_of}
use Rattle.prolly_look_up.specs.Sought.Sought.{Number}
use Rattle.prolly_look_up.specs.Way.{IsCountWay, IsWayTo, nth_sought}
use Rattle.prolly_root.specs.Reader.{way_of}
use Rattle.prolly_root.proofs.Descending.{all_from, finds, hands_on, looks_up_so, some_way}
use Rattle.prolly_root.proofs.look_up.reader.Reader.nth.Goals as goal

pub leaf_from-requires : goal.leaf_from-requires
leaf_from-requires g c = some_way c.in_ok-there.ensures.found

pub returns-in_err-there-clause-looked : goal.returns-in_err-there-clause-looked
returns-in_err-there-clause-looked g c = looks_up_so c.in_err-there.field-0.0
    c.from_residual.result c.from_residual.ensures c.in_err-there.ensures.looked

pub returns-clause-looked : goal.returns-clause-looked
returns-clause-looked g c = hands_on c.copy_of-pair.result c.hand_on.result c.hand_on.ensures.ok
    c.hand_on.ensures.err c.in_ok-there.ensures.looked

pub returns-clause-found : goal.returns-clause-found
returns-clause-found g c =
    let root = c.args.self.now.root in
    let there = c.in_ok-there.there in
    let down = c.in_ok-there.ensures.found in
    let chunks = way_of c.descend.new.self in
    finds c.descend.new.self _ c.copy_of-pair.result c.hand_on.result c.hand_on.ensures.ok
    c.hand_on.ensures.err _ (λ pair chunks. IsCountWay root c.args.n chunks pair)
    (λ pair is. subst (λ v. (way : IsWayTo v root (Number c.args.n) chunks) →
    pair ≡ nth_sought way.there (pairs_held way.last) → IsCountWay root c.args.n chunks pair)
    (sym c.requires) (λ way is. record { way = way; pair_is = is }) down.way
    (is ∙ c.pair_sought.ensures.is ∙ ap (nth_sought (sought_of there))
    (c.leaf_from.ensures down.way.before down.way.last down.way.are ∙ all_from _) ∙
    ap (λ s. nth_sought s (pairs_held down.way.last)) (sym down.there_is))) c.copy_of-pair.ensures
