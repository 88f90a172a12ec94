use Rattle.std.proofs.Common.{◌∙◌, arith, drop, false, get_or, ◌+◌, ◌≡◌}
use Rattle.std.proofs.lemmas.Result.{err_from_is_err_and}
use Rattle.prolly_entry.specs.Spelling.{record_spelling}
use Rattle.prolly_sort.specs.declared.place.Place.{Place}
use Rattle.prolly_sort.specs.Place.{record_in, records_in}
use Rattle.prolly_sort.proofs.Writing.{left_at, one_written, write_failed}
use Rattle.prolly_sort.proofs.sorted_run.SortedRun.write_records.Goals as goal

abbrev no_place : Place
no_place = record { prefix = 0; number = 0; start = 0; end = 0; key_len = 0; is_put = false }

pub loop-place-preserved : goal.loop-place-preserved
loop-place-preserved g c =
    let s = c.self.inside in
    let at = c.loop-place.place-index in
    let spelled : c.spelling.result.now ≡
    record_spelling (record_in s.bytes.items (get_or s.places.items at no_place)) =
    (rw (c.deref.ensures.value, c.deref-place-items.ensures.value) at c.spelling.ensures) ∙
    (c.self.invariant at no_place (omega arith)).spelled in
    one_written c.args.self.now (records_in s.bytes.items (drop (at + 1) s.places.items)) _ _ _ _
    (rw (left_at s.bytes.items s.places.items at no_place (omega arith)) at c.loop-place.invariant) _
    (rw spelled at c.in_ok-write_all.ensures.writes)

pub returns-in_err-write_all-clause-writes : goal.returns-in_err-write_all-clause-writes
returns-in_err-write_all-clause-writes g c =
    let s = c.self.inside in
    let at = c.loop-place.place-index in
    let p = err_from_is_err_and c.from_residual.result c.from_residual.ensures.1 in
    let spelled : c.spelling.result.now ≡
    record_spelling (record_in s.bytes.items (get_or s.places.items at no_place)) =
    (rw (c.deref.ensures.value, c.deref-place-items.ensures.value) at c.spelling.ensures) ∙
    (c.self.invariant at no_place (omega arith)).spelled in
    rw p.1 (write_failed c.args.self.now (records_in s.bytes.items (drop (at + 1) s.places.items)) _
    _ _ _ (rw (left_at s.bytes.items s.places.items at no_place (omega arith)) at
    c.loop-place.invariant) _ _ (rw spelled at c.in_err-write_all.ensures.writes))
