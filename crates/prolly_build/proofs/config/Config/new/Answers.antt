use Rattle.std.proofs.Common.{rules}
use Rattle.prolly_build.proofs.config.Config.new.Goals as goal

pub returns-then-not-contains-2-clause-err : goal.returns-then-not-contains-2-clause-err
returns-then-not-contains-2-clause-err c = search rules

pub returns-then-not-contains-3-clause-err : goal.returns-then-not-contains-3-clause-err
returns-then-not-contains-3-clause-err c = search rules

pub invariant_of-result : goal.invariant_of-result
invariant_of-result c = search rules
