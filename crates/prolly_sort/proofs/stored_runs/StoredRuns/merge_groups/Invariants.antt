use Rattle.std.proofs.Common.{◌≡◌, List, true, vec_len}
use Rattle.std.specs.List.{AllByRecursion}
use Rattle.prolly_entry.specs.Record.{IsRecord}
use Rattle.prolly_entry.specs.Record.{Record as RecordValue}
use Rattle.prolly_sort.specs.Shelf.{AreStored}
use Rattle.prolly_sort.proofs.stored_runs.StoredRuns.merge_groups.Given as goal

abbrev pub invariant-loop-alloc : goal.invariant-loop-alloc
invariant-loop-alloc g l =
    (g.T.RunStore.keeps l.initial.store ≡ true → g.T.RunStore.keeps l.store ≡ true) ×
    ((came : List RecordValue) → g.T.RunStore.keeps l.initial.store ≡ true →
    AreStored g.S.Source.seen l.initial.rule l.initial.self.runs.items came → AllByRecursion IsRecord came →
    AreStored g.S.Source.seen l.initial.rule l.self.runs.items came)

abbrev pub decreases-loop-alloc : goal.decreases-loop-alloc
decreases-loop-alloc g l = vec_len l.self.runs
