use Rattle.std.proofs.Common.{length}
use Rattle.std.specs.Option.{option_copied}
use Rattle.prolly_entry.proofs.RecordSteps.{IsUnderWay}
use Rattle.prolly_entry.proofs.record_file.records.Given as goal

abbrev pub invariant-loop-at : goal.invariant-loop-at
invariant-loop-at l = IsUnderWay l.bytes l.limit l.rest l.count (option_copied l.last_key)
    l.pairs.items

abbrev pub decreases-loop-at : goal.decreases-loop-at
decreases-loop-at l = length l.rest
