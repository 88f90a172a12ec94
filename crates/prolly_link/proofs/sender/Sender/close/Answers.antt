use Rattle.std.proofs.Common.{arith}
use Rattle.prolly_link.proofs.MessageLemmas.{messages}
use Rattle.prolly_link.proofs.sender.Sender.close.Goals as goal

pub invariant_of-result : goal.invariant_of-result
invariant_of-result g c = grind (arith, messages) steps 2000000

pub returns-clause-items : goal.returns-clause-items
returns-clause-items g c = grind (arith, messages) steps 2000000

pub returns-clause-end : goal.returns-clause-end
returns-clause-end g c = grind (arith, messages) steps 2000000
