use Rattle.std.proofs.Common.{◌++◌, ap, ◌∙◌}
use Rattle.std.specs.Option.{option_to_list}
use Rattle.std.specs.VecDeque.{deque_len}
use Rattle.prolly_link.specs.Batch.{items_of}
use Rattle.prolly_link.proofs.HandLemmas.{hand_after, given_one}
use Rattle.prolly_link.proofs.batch.receiver.BatchReceiver.recv.Goals as goal

pub invariant_of-self : goal.invariant_of-self
invariant_of-self g c =
    let hand = c.self.inside.hand in
    let next = c.pop_front.new.self in
    hand_after c.self.inside.receiver hand.items next.items (deque_len hand) (deque_len next)
    c.pop_front.result c.self.invariant c.pop_front.ensures.items c.pop_front.ensures.cases

pub returns-in-Some-clause-items : goal.returns-in-Some-clause-items
returns-in-Some-clause-items g c =
    let hand = c.self.inside.hand in
    let next = c.pop_front.new.self in
    rw (← c.self.view_is) (
    given_one (items_of c.self.inside.receiver.items) hand.items next.items c.in-Some.item
    c.self.invariant.ends_is
    (c.pop_front.ensures.items ∙ ap (λ given. option_to_list given ++ next.items) c.in-Some.is)
    )
