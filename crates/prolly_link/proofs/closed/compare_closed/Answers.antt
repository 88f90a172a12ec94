use Rattle.std.proofs.Common.{◌≡◌, true, ◌∙◌, ap}
use Rattle.rtrb.specs.Ring.{sent as pushed, received as popped, known_items}
use Rattle.prolly_link.specs.Receiver.{Agrees}
use Rattle.prolly_link.specs.Message.{items_in, is_closed, end_in}
use Rattle.prolly_link.proofs.PassingLemmas.{items_begin, ended_whole, received_of_closed}
use Rattle.prolly_link.proofs.closed.compare_closed.Goals as goal

pub returns-clause-passed : goal.returns-clause-passed
returns-clause-passed g c =
    let after = c.slots_beside.new.self in
    let sent = c.slots_beside.new.producer in
    let progress = c.receiver.inside.progress in
    let fifo = c.slots_beside.ensures.fifo in
    let agrees : Agrees progress (popped after) =
    rw c.slots_beside.ensures.looked.1 c.receiver.invariant in
    let closed : is_closed (pushed sent) ≡ true = ap is_closed c.slots_beside.ensures.producer.1 ∙
    c.closed.invariant in
    let begins = items_begin (popped after) (known_items after) (pushed sent) fifo in
    let whole = ended_whole progress (popped after) (known_items after) (pushed sent) agrees closed
    fifo in
    record {
      prefix = begins;
      end = whole;
      messages = received_of_closed progress (items_in (popped after)) (items_in (pushed sent))
          (end_in (pushed sent)) begins whole;
    }
