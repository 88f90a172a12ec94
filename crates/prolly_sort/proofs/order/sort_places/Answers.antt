use Rattle.std.proofs.Common.{◌≡◌, ◌∙◌, ◌++◌, ℕ, List, arith, drop, length, map, subst, sym, take}
use Rattle.std.proofs.lemmas.List.{take-append-le, take_all}
use Rattle.std.specs.List.Sorted.{IsStableBy}
use Rattle.prolly_sort.specs.declared.place.Place.{Place}
use Rattle.prolly_sort.specs.Place.{AreInOrder, SamePlaces, is_below, unranked}
use Rattle.prolly_sort.proofs.Same.{in_order_unranked, numbered_unranked, same_long}
use Rattle.prolly_sort.proofs.Standing.{stable_in_order}
use Rattle.prolly_sort.proofs.order.sort_places.Goals as goal

-- What is written over all of a vector is what the vector holds.
written_over : (old new : List Place) (len : ℕ) → length old ≡ len → SamePlaces old new →
    new ≡ take len (new ++ drop (length new) old)
written_over old new len whole same =
    let long : length new ≡ len = same_long old new same ∙ whole in
    sym (take-append-le len new (drop (length new) old) (omega (arith, long)) ∙
    take_all len new (omega (arith, long)))

pub returns-clause-stable : goal.returns-clause-stable
returns-clause-stable c =
    let bytes = c.args.bytes.now in
    let old = c.args.places.now in
    let new = c.sort_group.new.places in
    let same : SamePlaces old.items new = rw c.deref_mut.ensures.value at c.sort_group.ensures.same in
    subst (λ ps. IsStableBy (is_below bytes) (map unranked old.items) (map unranked ps))
    (written_over old.items new old.len (omega (arith, old.ok.0)) same)
    (stable_in_order bytes (map unranked old.items) (map unranked new)
    (numbered_unranked 0 old.items c.requires) same
    (in_order_unranked bytes new c.sort_group.ensures.sorted))

pub returns-clause-in_order : goal.returns-clause-in_order
returns-clause-in_order c =
    let old = c.args.places.now in
    let new = c.sort_group.new.places in
    subst (AreInOrder c.args.bytes.now)
    (written_over old.items new old.len (omega (arith, old.ok.0))
    (rw c.deref_mut.ensures.value at c.sort_group.ensures.same)) c.sort_group.ensures.sorted
