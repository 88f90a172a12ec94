use Rattle.std.proofs.Common.{arith}
use Rattle.prolly_link.proofs.MessageLemmas.{messages}
use Rattle.rtrb.specs.Ring.{received as popped}
use Rattle.prolly_link.proofs.AgreementLemmas.{agrees_item, agrees_last}
use Rattle.prolly_link.proofs.receiver.Receiver.recv.Goals as goal

pub invariant_of-self : goal.invariant_of-self
invariant_of-self g c =
    let before = c.self.inside in
    let came = rw c.in-Some-Item.field-0-is at c.in-Some-Item.ensures.some in
    agrees_item before.progress (popped before.ring) (popped c.pop_waiting.new.ring)
    c.in-Some-Item.item c.in-Open.is c.self.invariant.open_is came

pub invariant_of-self-in-Some-Last : goal.invariant_of-self-in-Some-Last
invariant_of-self-in-Some-Last g c =
    let before = c.self.inside in
    let came = rw c.in-Some-Last.field-0-is at c.in-Some-Last.ensures.some in
    agrees_last before.progress (popped before.ring) (popped c.pop_waiting.new.ring)
    c.in-Some-Last.end c.in-Open.is c.self.invariant.open_is came

pub returns-in-Lost-clause-items : goal.returns-in-Lost-clause-items
returns-in-Lost-clause-items g c = grind (arith, messages) steps 2000000

pub returns-in-Some-Item-clause-items : goal.returns-in-Some-Item-clause-items
returns-in-Some-Item-clause-items g c = grind (arith, messages) steps 2000000

pub returns-in-Some-Last-clause-items : goal.returns-in-Some-Last-clause-items
returns-in-Some-Last-clause-items g c = grind (arith, messages) steps 2000000

pub returns-in-None-clause-items : goal.returns-in-None-clause-items
returns-in-None-clause-items g c = grind (arith, messages) steps 2000000
