use Rattle.std.proofs.Common.{rules}
use Rattle.prolly_merge.proofs.item.PairMergeItem.send_of.Goals as goal

pub returns-in_default-clause-count : goal.returns-in_default-clause-count
returns-in_default-clause-count g c = search rules
