use Rattle.std.proofs.Common.{◌++◌}
use Rattle.std.specs.VecDeque.{deque_len}
use Rattle.prolly_link.specs.Batch.{items_of}
use Rattle.prolly_link.specs.BatchReceiver.{given_of, IsInHand}
use Rattle.prolly_link.proofs.HandLemmas.{given_begins}
use Rattle.prolly_link.proofs.PassingLemmas.{received_of_open}
use Rattle.prolly_link.proofs.batch.closed.compare_batches.Goals as goal

pub returns-clause-passed : goal.returns-clause-passed
returns-clause-passed g c =
    let came = c.compare.new.receiver in
    let hand = c.receiver.inside.hand in
    let pending = c.sender.inside.pending.items in
    let given = given_of came hand.items in
    let sent = items_of c.compare.new.sender.items ++ pending in
    let in_hand : IsInHand came hand.items (deque_len hand) =
    rw c.compare.ensures.receiver c.receiver.invariant in
    let begins = given_begins came c.compare.new.sender.items hand.items pending (deque_len hand)
    in_hand c.compare.ensures.passed.prefix in
    let unended = c.compare.ensures.passed.no_end in
    record {
      prefix = begins;
      no_end = unended;
      messages = received_of_open came.progress given.items sent begins unended;
    }
