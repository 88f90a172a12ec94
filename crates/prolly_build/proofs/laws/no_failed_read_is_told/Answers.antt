use Rattle.prolly_build.proofs.GivenBack.{true_of_reads}
use Rattle.prolly_build.proofs.laws.no_failed_read_is_told.Goals as goal

pub returns : goal.returns
returns g c = true_of_reads g.D.ChunkSource.goes_over g.D.ChunkSource.failures
