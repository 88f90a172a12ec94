use Rattle.std.proofs.Common.{rules}
use Rattle.prolly_fault.proofs.fault.run_status.Goals as goal

pub returns-in-TooTall : goal.returns-in-TooTall
returns-in-TooTall c = search rules
