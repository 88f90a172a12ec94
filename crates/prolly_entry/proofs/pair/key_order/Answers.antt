use Rattle.std.proofs.Common.{rules}
use Rattle.prolly_entry.proofs.pair.key_order.Goals as goal

pub returns : goal.returns
returns c = search rules
