use Rattle.std.proofs.Common.{append_assoc}
use Rattle.prolly_fault.proofs.fault.FaultDisplay.fmt.Goals as goal

pub returns-in-DoubledKey-clause-writes : goal.returns-in-DoubledKey-clause-writes
returns-in-DoubledKey-clause-writes g c =
    rw c.in-DoubledKey.is (simp append_assoc c.write-in-DoubledKey.ensures.writes)
