use Rattle.std.proofs.Common.{◌≡◌, ◌∙◌, ap, sym}
use Rattle.rtrb.specs.Ring.{sent as pushed, received as popped, known_items}
use Rattle.prolly_link.specs.Identity.{consumer_link, producer_link}
use Rattle.prolly_link.specs.Message.{is_closed}
use Rattle.prolly_link.proofs.MessageLemmas.{closed_is_whole, same_whole}
use Rattle.prolly_link.proofs.closed.meet.Goals as goal

pub returns-clause-sent : goal.returns-clause-sent
returns-clause-sent g c =
    let after = c.slots_beside.new.self in
    let sent = c.slots_beside.new.producer in
    let ring = c.slots_beside.ensures.looked.0.0 in
    let came : popped after ≡ popped c.receiver.inside.ring = c.slots_beside.ensures.looked.1 in
    let went : pushed sent ≡ pushed c.sender.inside.ring = c.slots_beside.ensures.producer.1 in
    let all = closed_is_whole (popped after) (known_items after) (pushed sent) (ap is_closed came ∙
    c.receiver.invariant) (ap is_closed went ∙ c.sender.invariant) c.slots_beside.ensures.fifo
    in
    let kept : consumer_link after ≡ consumer_link c.receiver.inside.ring =
    cc (ring.0, ring.1, ring.2, ring.3) in
    let link = kept ∙ ap (λ v. v.link) c.receiver.view_is ∙ sym c.requires ∙
    sym (ap (λ v. v.link) c.sender.view_is) in
    same_whole (consumer_link after) (producer_link c.sender.inside.ring) (popped after)
    (pushed c.sender.inside.ring) link (all ∙ went) ∙ c.sender.view_is
