use Rattle.prolly_entry.proofs.Orders.{key_order_is}
use Rattle.prolly_laws.proofs.entries.keys_are_ordered_bytewise.Goals as goal

pub returns : goal.returns
returns c = key_order_is
