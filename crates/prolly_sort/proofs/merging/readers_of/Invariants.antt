use Rattle.std.proofs.Common.{◌≡◌}
use Rattle.prolly_sort.specs.Shelf.{readings_of}
use Rattle.prolly_sort.proofs.merging.readers_of.Given as goal

abbrev pub invariant-loop-run : goal.invariant-loop-run
invariant-loop-run g l = l.readers.items ≡ readings_of g.S.Source.seen l.yielded
