use Rattle.std.proofs.Common.{◌≡◌, true, ◌∙◌, ap}
use Rattle.rtrb.specs.Ring.{sent as pushed, received as popped, known_items}
use Rattle.prolly_link.specs.Receiver.{Agrees}
use Rattle.prolly_link.specs.Message.{items_in, is_open}
use Rattle.prolly_link.proofs.PassingLemmas.{items_begin, not_ended, received_of_open}
use Rattle.prolly_link.proofs.closed.compare.Goals as goal

pub returns-clause-passed : goal.returns-clause-passed
returns-clause-passed g c =
    let after = c.slots_beside.new.self in
    let sent = c.slots_beside.new.producer in
    let progress = c.receiver.inside.progress in
    let fifo = c.slots_beside.ensures.fifo in
    let agrees : Agrees progress (popped after) =
    rw c.slots_beside.ensures.looked.1 c.receiver.invariant in
    let unclosed : is_open (pushed sent) ≡ true = ap is_open c.slots_beside.ensures.producer.1 ∙
    c.sender.invariant in
    let begins = items_begin (popped after) (known_items after) (pushed sent) fifo in
    let unended = not_ended progress (popped after) (known_items after) (pushed sent) agrees
    unclosed fifo in
    record {
      prefix = begins;
      no_end = unended;
      messages = received_of_open progress (items_in (popped after)) (items_in (pushed sent)) begins
          unended;
    }
