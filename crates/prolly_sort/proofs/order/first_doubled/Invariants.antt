use Rattle.std.proofs.Common.{take}
use Rattle.prolly_entry.specs.Keys.{Rising}
use Rattle.prolly_entry.specs.Record.{keys_of}
use Rattle.prolly_sort.specs.Place.{records_in}
use Rattle.prolly_sort.proofs.order.first_doubled.Given as goal

abbrev pub invariant-loop-behind : goal.invariant-loop-behind
invariant-loop-behind l = Rising (keys_of (records_in l.bytes (take l.behind l.places)))
