use Rattle.std.proofs.Common.{sym, ◌∙◌, ap, rules}
use Rattle.prolly_entry.specs.Keys.{key_order}
use Rattle.prolly_merge.proofs.Turns.{left_is_less}
use Rattle.prolly_merge.proofs.two.turn_of.Goals as goal

pub returns-in-Less : goal.returns-in-Less
returns-in-Less c =
    let l = c.in-Ready-Ready.left in
    let r = c.in-Ready-Ready.right in
    left_is_less c.args.left.now c.args.right.now l r c.in-Ready-Ready.is-0 c.in-Ready-Ready.is-1
    (ap (λ k. key_order k r.key) (sym c.key.ensures.key) ∙
    ap (λ k. key_order c.key.result.now k) (sym c.key-in-Ready-Ready.ensures.key) ∙
    sym c.key_order.ensures ∙ c.in-Less.is)

pub returns-in_default-Ended-Fault : goal.returns-in_default-Ended-Fault
returns-in_default-Ended-Fault c = search rules
