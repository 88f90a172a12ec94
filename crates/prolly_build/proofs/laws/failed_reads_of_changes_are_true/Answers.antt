use Rattle.prolly_build.proofs.FailedReads.{no_read_is_told_over, reads_true_over}
use Rattle.prolly_build.proofs.laws.failed_reads_of_changes_are_true.Goals as goal

pub returns : goal.returns
returns g c = record {
  failed = λ source settings root before after old new result outcome.
      reads_true_over g.S.Source.seen (g.D.ChunkSource.goes_over source) settings root before after
      _ _ _ result outcome;
  steady = λ source settings root before after old new result steady outcome.
      no_read_is_told_over g.S.Source.seen (g.D.ChunkSource.goes_over source) settings root before
      after _ _ _ result steady outcome;
}
