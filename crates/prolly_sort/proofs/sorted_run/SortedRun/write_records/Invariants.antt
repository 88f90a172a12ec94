use Rattle.std.proofs.Common.{drop}
use Rattle.prolly_sort.specs.Place.{records_in}
use Rattle.prolly_sort.proofs.Writing.{IsUnderWay}
use Rattle.prolly_sort.proofs.sorted_run.SortedRun.write_records.Given as goal

abbrev pub invariant-loop-place : goal.invariant-loop-place
invariant-loop-place g l = IsUnderWay l.self
    (records_in l.self-inside.bytes.items (drop l.place-index l.self-inside.places.items))
    (g.W.Sink.seen l.initial.sink) (g.W.Sink.seen l.sink)
