use Rattle.std.proofs.Common.{rules}
use Rattle.prolly_io.proofs.device.to_write.ToWriteSink.write.Goals as goal

pub returns-else-n-eq0-clause-failures : goal.returns-else-n-eq0-clause-failures
returns-else-n-eq0-clause-failures g c = search rules
