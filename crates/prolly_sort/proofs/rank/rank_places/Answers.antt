use Rattle.std.proofs.Common.{◌≤◌, ◌∙◌, ap, arith, drop, length}
use Rattle.prolly_entry.specs.lemmas.Lists.{rest_is}
use Rattle.prolly_sort.specs.Place.{prefix_of}
use Rattle.prolly_sort.proofs.Ranking.{all_ranked, front_fits, ranked_more}
use Rattle.prolly_sort.proofs.rank.rank_places.Goals as goal

pub slice_bounds-prefix_of-count : goal.slice_bounds-prefix_of-count
slice_bounds-prefix_of-count c =
    let front = c.common_front-skipped.result.now in
    front_fits c.args.bytes.now (length front) c.args.places.now c.loop-place.places
    c.loop-place.place-index _ (omega arith) c.loop-place.invariant front c.key.result.now
    c.common_front-skipped.ensures c.key.ensures

pub slice_bounds-prefix_of-start : goal.slice_bounds-prefix_of-start
slice_bounds-prefix_of-start c =
    let front = c.common_front-skipped.result.now in
    let fits : length front ≤ length c.key.result.now =
    front_fits c.args.bytes.now (length front) c.args.places.now c.loop-place.places
    c.loop-place.place-index _ (omega arith) c.loop-place.invariant front c.key.result.now
    c.common_front-skipped.ensures c.key.ensures in
    omega (arith, fits)

pub loop-place-preserved : goal.loop-place-preserved
loop-place-preserved c =
    let n = length c.common_front-skipped.result.now in
    ranked_more c.args.bytes.now n c.args.places.now c.loop-place.places
    c.loop-place.place-index _ (omega arith) c.loop-place.invariant c.prefix_of-place.result
    (omega arith) (c.prefix_of-place.ensures ∙ ap (prefix_of 8) (rest_is c.key.result.now n) ∙
    ap (λ k. prefix_of 8 (drop n k)) c.key.ensures)

pub returns : goal.returns
returns c = all_ranked c.args.bytes.now c.common_front-skipped.result.now c.args.places.now
    c.loop-place.places c.loop-place.place-index c.common_front-skipped.ensures (omega arith)
    (omega arith) c.loop-place.invariant
