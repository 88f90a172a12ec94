use Rattle.std.proofs.Common.{rules}
use Rattle.prolly_link.proofs.batch.sender.BatchSender.close.Goals as goal

pub returns-clause-items : goal.returns-clause-items
returns-clause-items g c = search rules
