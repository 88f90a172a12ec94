use Rattle.std.proofs.Common.{rules}
use Rattle.prolly_root_diff.proofs.Lists.{some_due}
use Rattle.prolly_root_diff.proofs.root_leaves.RootLeaves.is_exhausted.Goals as goal

pub returns-clause-some : goal.returns-clause-some
returns-clause-some g c = λ left. some_due c.args.self.now.due.items (search rules)
