use Rattle.std.proofs.Common.{rules}
use Rattle.prolly_root_diff.proofs.Lists.{some_due}
use Rattle.prolly_root_diff.proofs.side.Side.is_ready.Goals as goal

pub returns-else-not-is_empty-clause-no : goal.returns-else-not-is_empty-clause-no
returns-else-not-is_empty-clause-no g c some = (
  c.is_empty.ensures.yes c.if-not-is_empty.false,
  some_due c.args.self.now.due.items (search rules),
)
