use Rattle.std.proofs.Common.{rules}
use Rattle.prolly_entry.proofs.pair.Pair.with_boundary_number.Goals as goal

pub invariant_of-result-2 : goal.invariant_of-result-2
invariant_of-result-2 c = search rules
