use Rattle.std.proofs.Common.{subst}
use Rattle.prolly_root.specs.Subtree.{KeepsLastChild}
use Rattle.prolly_root.specs.lemmas.Levels.{suc_behind}
use Rattle.prolly_root.proofs.file.subtree.Subtree.nearest.Goals as goal

pub returns-in-Some-default-clause-reached : goal.returns-in-Some-default-clause-reached
returns-in-Some-default-clause-reached c file marks keeps first =
    let kept = subst (KeepsLastChild file c.args.level c.args.self.now.top.below)
    c.in-Some-default.is-0 keeps first in
    let passed = c.in-Some-default.passed in (
      kept.1,
      suc_behind file c.args.level c.args.self.now.top.below.number passed.number
          passed.rest.number kept.2,
    )
