use Rattle.std.proofs.lemmas.Grind.{common_steps}
use Rattle.std.proofs.Common.{arith}
use Rattle.prolly_link.proofs.BatchLemmas.{items_of_push}
use Rattle.prolly_link.proofs.batch.sender.send_items.Goals as goal

pub returns-then-is_empty-clause-items : goal.returns-then-is_empty-clause-items
returns-then-is_empty-clause-items g c = grind (arith, common_steps) steps 2000000

pub returns-clause-items : goal.returns-clause-items
returns-clause-items g c = grind (arith, items_of_push)
