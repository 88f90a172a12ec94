use Rattle.std.proofs.Common.{arith, rules, subst}
use Rattle.std.proofs.lemmas.List.{take_all, take_rest}
use Rattle.std.proofs.lemmas.List.Sorted.{All-permutation, IsNonDecreasingBy-from_sort_by_key}
use Rattle.prolly_sort.specs.declared.place.Place.{Place}
use Rattle.prolly_sort.specs.Place.{AreInOrder, IsFirstGroup}
use Rattle.prolly_sort.proofs.Grouping.{all_are_same, group_sorted, ranked_in_order}
use Rattle.prolly_sort.proofs.Prefixes.{IsRanked, all_bytes}
use Rattle.prolly_sort.proofs.Ranking.{all_ranked_behind, same_ranked}
use Rattle.prolly_sort.proofs.Same.{same_in_order, same_trans}
use Rattle.prolly_sort.proofs.group.+sort_group.Goals as goal

pub returns-then-levels-eq0-clause-same : goal.returns-then-levels-eq0-clause-same
returns-then-levels-eq0-clause-same t c = same_in_order _ _ _
    (same_ranked c.args.bytes.now _ _ c.rank_places.ensures) c.sort_by_keys.ensures.same

pub returns-then-levels-eq0-clause-sorted : goal.returns-then-levels-eq0-clause-sorted
returns-then-levels-eq0-clause-sorted t c =
    let bytes = c.args.bytes.now in
    let front = c.rank_places.ensures.front in
    ranked_in_order bytes front _ (All-permutation (IsRanked bytes front) _ _
    c.sort_by_keys.ensures.same (all_ranked_behind bytes _ _ c.rank_places.ensures))
    c.sort_by_keys.ensures.sorted

pub offset_bounds-places-start : goal.offset_bounds-places-start
offset_bounds-places-start t c = omega (arith, c.loop-start.invariant.long)

pub loop-start-preserved : goal.loop-start-preserved
loop-start-preserved t c =
    let bytes = c.args.bytes.now in
    let front = c.rank_places.ensures.front in
    let ps = c.sort_unstable_by_key.new.self in
    let start = c.loop-start.start in
    let n = c.group_len-in-loop-start.result in
    group_sorted bytes (all_bytes bytes (λ k. omega (arith, c.type_inv.bytes k))) front ps
    c.loop-start.places c.sort_group.new.places start n _ (omega arith)
    (All-permutation (IsRanked bytes front) _ _ c.sort_unstable_by_key.ensures.permutation
    (all_ranked_behind bytes _ _ c.rank_places.ensures))
    (IsNonDecreasingBy-from_sort_by_key (λ (p : Place). p.prefix) ps
    c.sort_unstable_by_key.ensures.sorted (λ a r q k. search rules))
    (omega arith) (subst (λ qs. IsFirstGroup qs n) (take_rest c.loop-start.places start)
    c.group_len-in-loop-start.ensures) c.sort_group.ensures.same
    c.sort_group.ensures.sorted c.loop-start.invariant

pub shape_of-places : goal.shape_of-places
shape_of-places t c = omega (arith, c.loop-start.invariant.long)

pub returns-clause-same : goal.returns-clause-same
returns-clause-same t c =
    same_trans _ _ _ (same_in_order _ _ _ (same_ranked c.args.bytes.now _ _ c.rank_places.ensures)
    c.sort_unstable_by_key.ensures.permutation)
    (all_are_same c.args.bytes.now _ _ c.loop-start.start (omega arith) c.loop-start.invariant)

pub returns-clause-sorted : goal.returns-clause-sorted
returns-clause-sorted t c = subst (AreInOrder c.args.bytes.now)
    (take_all c.loop-start.start c.loop-start.places (omega arith)) c.loop-start.invariant.sorted
