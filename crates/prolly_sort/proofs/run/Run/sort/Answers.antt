use Rattle.std.proofs.Common.{◌∙◌, ap, sym}
use Rattle.prolly_sort.specs.Overlaid.{overlaid}
use Rattle.prolly_sort.specs.Place.{records_in}
use Rattle.prolly_sort.specs.Run.{Held}
use Rattle.prolly_sort.proofs.Coming.{rising_stay}
use Rattle.prolly_sort.proofs.Same.{still_stand}
use Rattle.prolly_sort.proofs.Sorting.{kept_come, kept_rises}
use Rattle.prolly_sort.proofs.run.Run.sort.Goals as goal

pub returns-then-is_rising-clause-records : goal.returns-then-is_rising-clause-records
returns-then-is_rising-clause-records c =
    let s = c.self.inside in
    sym (rising_stay (records_in s.bytes.items s.places.items)
    (c.self.invariant.rising.0 c.if-is_rising.true)) ∙
    ap (λ (h : Held). overlaid h.records) c.self.view_is

pub keep_last-requires-clause-stand : goal.keep_last-requires-clause-stand
keep_last-requires-clause-stand c = rw c.deref-2.ensures.value
    (still_stand c.self.inside.bytes.items _ _ c.sort_places.ensures.same c.self.invariant.stand)

pub keep_last-requires-clause-in_order : goal.keep_last-requires-clause-in_order
keep_last-requires-clause-in_order c = rw c.deref-2.ensures.value
    (rw c.deref.ensures.value at c.sort_places.ensures.in_order)

pub returns-clause-records : goal.returns-clause-records
returns-clause-records c =
    kept_come c.self.inside.bytes.items c.self.inside.places.items c.sort_places.new.places.items
    c.sort_places.ensures.same (rw c.deref.ensures.value at c.sort_places.ensures.stable)
    c.keep_last.new.places.items (rw c.deref-2.ensures.value at c.keep_last.ensures.records) ∙
    ap (λ (h : Held). overlaid h.records) c.self.view_is

pub returns-clause-rising : goal.returns-clause-rising
returns-clause-rising c =
    kept_rises c.self.inside.bytes.items c.self.inside.places.items c.sort_places.new.places.items
    c.sort_places.ensures.same (rw c.deref.ensures.value at c.sort_places.ensures.stable)
    c.keep_last.new.places.items (rw c.deref-2.ensures.value at c.keep_last.ensures.records)
