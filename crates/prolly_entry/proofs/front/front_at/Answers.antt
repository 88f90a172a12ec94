use Rattle.std.proofs.Common.{rules}
use Rattle.prolly_entry.proofs.front.front_at.Goals as goal

pub returns-then-value_length : goal.returns-then-value_length
returns-then-value_length c = search rules

pub returns-then-value_length-gt-VALUE_LIMIT : goal.returns-then-value_length-gt-VALUE_LIMIT
returns-then-value_length-gt-VALUE_LIMIT c = search rules
