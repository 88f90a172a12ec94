use Rattle.std.proofs.Common.{arith}
use Rattle.std.proofs.lemmas.Grind.{common_steps}
use Rattle.prolly_link.proofs.batch.sender.BatchSender.send_sized.Goals as goal

pub returns-then-held-lt-LARGE_BATCH_BYTES-clause-ok : goal.returns-then-held-lt-LARGE_BATCH_BYTES-clause-ok
returns-then-held-lt-LARGE_BATCH_BYTES-clause-ok g c = grind (arith, common_steps)
