use Rattle.prolly_tree.specs.lemmas.Walks.{differ, same}
use Rattle.prolly_entry.specs.lemmas.Orders.{greater_below, order_same}
use Rattle.prolly_root_diff.proofs.onward.at_pairs.Goals as goal

pub returns-then-ne : goal.returns-then-ne
returns-then-ne c =
    rw (c.in-Some-Some.is-0, c.in-Some-Some.is-1) (
      order_same c.in-Some-Some.key.now c.in-Some-Some.other.now (rw c.key_order.ensures at c.in-Equal.is),
      differ c.in-Some-Some.old.now c.in-Some-Some.new.now c.ne.result c.ne.ensures c.if-ne.true,
    )

pub returns-in-Greater : goal.returns-in-Greater
returns-in-Greater c =
    rw (c.in-Some-Some.is-0, c.in-Some-Some.is-1)
    (greater_below c.in-Some-Some.key.now c.in-Some-Some.other.now (rw c.key_order.ensures at c.in-Greater.is))

pub returns-else-ne : goal.returns-else-ne
returns-else-ne c =
    rw (c.in-Some-Some.is-0, c.in-Some-Some.is-1) (
      order_same c.in-Some-Some.key.now c.in-Some-Some.other.now (rw c.key_order.ensures at c.in-Equal.is),
      same c.in-Some-Some.old.now c.in-Some-Some.new.now c.ne.result c.ne.ensures c.if-ne.false,
    )
