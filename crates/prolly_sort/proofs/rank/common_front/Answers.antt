use Rattle.std.proofs.Common.{◌∙◌, All, ap, arith, nat_eq, subst, take}
use Rattle.std.proofs.lemmas.List.{take_all}
use Rattle.std.specs.List.{common_prefix_len}
use Rattle.prolly_entry.specs.Prefix.{IsPrefix}
use Rattle.prolly_sort.specs.Place.{key_in}
use Rattle.prolly_sort.proofs.Ranking.{front_of_more}
use Rattle.prolly_sort.proofs.rank.common_front.Goals as goal

pub loop-place-preserved : goal.loop-place-preserved
loop-place-preserved c =
    let front = c.loop-place.front.now in
    front_of_more c.args.bytes.now front c.shared_front-front.result.now c.args.places.now
    c.loop-place.place-index _ (omega arith)
    (c.shared_front-front.ensures ∙ ap (λ k. take (common_prefix_len nat_eq front k) front) c.key.ensures)
    c.loop-place.invariant

pub returns : goal.returns
returns c =
    subst (All (λ p. IsPrefix c.loop-place.front.now (key_in c.args.bytes.now p)))
    (take_all c.loop-place.place-index c.args.places.now (omega arith)) c.loop-place.invariant
