use Rattle.std.proofs.Common.{◌∙◌, ap, length, sym, subst}
use Rattle.std.proofs.lemmas.List.{length-map}
use Rattle.prolly_sort.specs.Overlaid.{overlaid}
use Rattle.prolly_sort.specs.Place.{record_in, records_in}
use Rattle.prolly_sort.specs.Run.{AreDoubled, Held}
use Rattle.prolly_sort.proofs.Apart.{rising_apart, sorted_apart}
use Rattle.prolly_sort.proofs.Coming.{rising_stay}
use Rattle.prolly_sort.proofs.Same.{doubled_same, same_long, still_stand}
use Rattle.prolly_sort.proofs.Sorting.{sorted_come}
use Rattle.prolly_sort.proofs.run.Run.sort_unique.Goals as goal

pub returns-then-is_rising-clause-records : goal.returns-then-is_rising-clause-records
returns-then-is_rising-clause-records c =
    let s = c.self.inside in
    sym (rising_stay (records_in s.bytes.items s.places.items)
    (c.self.invariant.rising.0 c.if-is_rising.true)) ∙
    ap (λ (h : Held). overlaid h.records) c.self.view_is

pub first_doubled-requires : goal.first_doubled-requires
first_doubled-requires c = rw (c.deref-2.ensures.value, c.deref-3.ensures.value)
    (rw c.deref.ensures.value at c.sort_places.ensures.in_order)

pub invariant_of-result-in-None : goal.invariant_of-result-in-None
invariant_of-result-in-None c =
    still_stand c.self.inside.bytes.items _ _ c.sort_places.ensures.same c.self.invariant.stand

pub returns-in-None-clause-records : goal.returns-in-None-clause-records
returns-in-None-clause-records c =
    let bytes = c.self.inside.bytes.items in
    let ys = c.sort_places.new.places.items in
    sym (rising_stay (records_in bytes ys)
    (rw (c.deref-2.ensures.value, c.deref-3.ensures.value) at c.in-None.ensures.none)) ∙
    sorted_come bytes c.self.inside.places.items ys c.sort_places.ensures.same
    (rw c.deref.ensures.value at c.sort_places.ensures.stable) ∙
    ap (λ (h : Held). overlaid h.records) c.self.view_is

pub returns-in-None-clause-all : goal.returns-in-None-clause-all
returns-in-None-clause-all c =
    let bytes = c.self.inside.bytes.items in
    let xs = c.self.inside.places.items in
    let ys = c.sort_places.new.places.items in
    length-map ys (record_in bytes) ∙ same_long xs ys c.sort_places.ensures.same ∙
    sym (length-map xs (record_in bytes)) ∙ ap (λ (h : Held). length h.records) c.self.view_is

pub returns-in-Some-clause-doubled : goal.returns-in-Some-clause-doubled
returns-in-Some-clause-doubled c =
    let one = c.in-Some.one in
    let next = c.in-Some.next in
    rw (c.from.ensures, c.from-in-Some.ensures)
    (subst (λ (h : Held). AreDoubled h.records one.number next.number) c.self.view_is
    (doubled_same c.self.inside.bytes.items c.self.inside.places.items
    c.sort_places.new.places.items c.sort_places.ensures.same one next c.self.invariant.numbered
    (rw c.deref.ensures.value at c.sort_places.ensures.stable)
    (rw (c.deref-2.ensures.value, c.deref-3.ensures.value) at c.in-Some.ensures.some)))

pub returns-then-is_rising-clause-apart : goal.returns-then-is_rising-clause-apart
returns-then-is_rising-clause-apart c = λ first second two.
    let s = c.self.inside in
    rising_apart (records_in s.bytes.items s.places.items) first second
    (c.self.invariant.rising.0 c.if-is_rising.true)
    (subst (λ (h : Held). AreDoubled h.records first second) (sym c.self.view_is) two)

pub returns-in-None-clause-apart : goal.returns-in-None-clause-apart
returns-in-None-clause-apart c = λ first second two.
    sorted_apart c.self.inside.bytes.items c.self.inside.places.items c.sort_places.new.places.items
    first second c.sort_places.ensures.same
    (rw c.deref.ensures.value at c.sort_places.ensures.stable)
    (rw (c.deref-2.ensures.value, c.deref-3.ensures.value) at c.in-None.ensures.none)
    (subst (λ (h : Held). AreDoubled h.records first second) (sym c.self.view_is) two)
