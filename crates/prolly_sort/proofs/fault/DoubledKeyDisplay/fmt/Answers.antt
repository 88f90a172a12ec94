use Rattle.std.proofs.Common.{append_assoc}
use Rattle.prolly_sort.proofs.fault.DoubledKeyDisplay.fmt.Goals as goal

pub returns-clause-writes : goal.returns-clause-writes
returns-clause-writes g c = simp append_assoc c.write.ensures.writes
