use Rattle.std.proofs.Common.{rules}
use Rattle.prolly_io.proofs.device.from_read.FromReadSource.read.Goals as goal

pub returns-after-n-eq0-clause-bytes : goal.returns-after-n-eq0-clause-bytes
returns-after-n-eq0-clause-bytes g c = search rules

pub returns-after-n-eq0-clause-over : goal.returns-after-n-eq0-clause-over
returns-after-n-eq0-clause-over g c = search rules

pub returns-in-Err-clause-over : goal.returns-in-Err-clause-over
returns-in-Err-clause-over g c = search rules

pub returns-in-Err-clause-goes_on : goal.returns-in-Err-clause-goes_on
returns-in-Err-clause-goes_on g c = search rules
