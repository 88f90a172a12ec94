use Rattle.std.proofs.Common.{rules}
use Rattle.prolly_line.proofs.arguments.options.capacity_option.Goals as goal

pub returns : goal.returns
returns c = (search rules, search rules)
