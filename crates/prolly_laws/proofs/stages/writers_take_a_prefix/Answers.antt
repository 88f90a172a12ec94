use Rattle.prolly_laws.specs.Stages.{within_is_prefix}
use Rattle.prolly_laws.proofs.stages.writers_take_a_prefix.Goals as goal

pub returns : goal.returns
returns c = within_is_prefix
