use Rattle.std.proofs.Common.{rules}
use Rattle.prolly_io.proofs.format.frame.end_record.Goals as goal

pub returns : goal.returns
returns c = search rules
