use Rattle.std.specs.VecDeque.{deque_len}
use Rattle.prolly_link.proofs.HandLemmas.{batch_in_hand, first_given}
use Rattle.prolly_link.proofs.batch.receiver.recv_batch.Goals as goal

pub returns-in-Item-clause-hand : goal.returns-in-Item-clause-hand
returns-in-Item-clause-hand g c =
    let rest = c.into_first-first.result.1 in
    rw (c.replace.ensures.after) (
    batch_in_hand c.args.receiver.now c.recv.new.self c.in-Item.batch c.into_first-first.result.0
    rest.items (deque_len rest)
    c.in-Item.ensures.items c.in-Item.ensures.progress c.into_first-first.ensures.items
    c.into_first-first.ensures.counted
    )

pub returns-in-Item-clause-items : goal.returns-in-Item-clause-items
returns-in-Item-clause-items g c =
    let hand = c.args.hand.now in
    rw (c.replace.ensures.after) (
    first_given c.args.receiver.now c.recv.new.self c.in-Item.batch c.into_first-first.result.0
    hand.items
    c.into_first-first.result.1.items (deque_len hand)
    c.requires.hand c.requires.empty c.in-Item.ensures.items c.into_first-first.ensures.items
    )
