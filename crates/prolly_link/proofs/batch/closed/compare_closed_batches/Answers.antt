use Rattle.std.specs.VecDeque.{deque_len}
use Rattle.prolly_link.specs.Batch.{items_of}
use Rattle.prolly_link.specs.BatchReceiver.{given_of, IsInHand}
use Rattle.prolly_link.proofs.HandLemmas.{given_begins_whole, given_whole}
use Rattle.prolly_link.proofs.PassingLemmas.{received_of_closed}
use Rattle.prolly_link.proofs.batch.closed.compare_closed_batches.Goals as goal

pub returns-clause-passed : goal.returns-clause-passed
returns-clause-passed g c =
    let came = c.compare_closed.new.receiver in
    let sent = c.compare_closed.new.closed in
    let hand = c.receiver.inside.hand in
    let given = given_of came hand.items in
    let in_hand : IsInHand came hand.items (deque_len hand) =
    rw c.compare_closed.ensures.receiver c.receiver.invariant in
    let begins = given_begins_whole came sent.items hand.items (deque_len hand) in_hand
    c.compare_closed.ensures.passed.prefix in
    let whole = given_whole came sent.items hand.items sent.end (deque_len hand) in_hand
    c.compare_closed.ensures.passed.end in
    record {
      prefix = begins;
      end = whole;
      messages = received_of_closed came.progress given.items
          (items_of sent.items) sent.end begins whole;
    }
