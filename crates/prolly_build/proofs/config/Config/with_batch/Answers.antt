use Rattle.std.proofs.Common.{rules}
use Rattle.prolly_build.proofs.config.Config.with_batch.Goals as goal

pub invariant_of-result : goal.invariant_of-result
invariant_of-result c = search rules
