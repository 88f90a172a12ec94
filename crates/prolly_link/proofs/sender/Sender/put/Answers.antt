use Rattle.std.proofs.Common.{arith}
use Rattle.prolly_link.proofs.MessageLemmas.{messages}
use Rattle.prolly_link.proofs.sender.Sender.put.Goals as goal

pub invariant_of-self : goal.invariant_of-self
invariant_of-self g c = grind (arith, messages) steps 2000000

pub returns-clause-items : goal.returns-clause-items
returns-clause-items g c = grind (arith, messages) steps 2000000
