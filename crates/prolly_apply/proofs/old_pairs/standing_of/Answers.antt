use Rattle.std.proofs.Common.{sym, ap, ◌∙◌, subst}
use Rattle.prolly_entry.specs.Keys.{key_order}
use Rattle.prolly_entry.specs.lemmas.Orders.{greater_below, order_same}
use Rattle.prolly_apply.specs.Taking.{IsBehind}
use Rattle.prolly_apply.proofs.old_pairs.standing_of.Goals as goal

pub returns-in-Equal : goal.returns-in-Equal
returns-in-Equal c = (
  c.in-Ready.change,
  c.in-Ready.is,
  order_same c.in-Ready.change.key c.args.key.now
      (ap (λ k. key_order k c.args.key.now) (sym c.key.ensures.key) ∙ sym c.key_order.ensures
      ∙ c.in-Equal.is),
)

pub returns-in-Greater : goal.returns-in-Greater
returns-in-Greater c =
    subst (IsBehind c.args.key.now) (sym c.in-Ready.is)
    (greater_below c.in-Ready.change.key c.args.key.now
    (ap (λ k. key_order k c.args.key.now) (sym c.key.ensures.key) ∙ sym c.key_order.ensures
    ∙ c.in-Greater.is))
