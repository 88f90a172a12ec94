-- What the last merger sent of the files.
use Rattle.std.specs.Prelude.{ℕ, List, map}
use Rattle.prolly_tree.specs.Merge.{Input}
use Rattle.prolly_entry.specs.Pair.{Pair}
use Rattle.prolly_io.specs.Source.{SourceView}
use Rattle.prolly_link.specs.Views.{Batching, Whole}
use Rattle.prolly_link.specs.declared.message.End.{End}
use Rattle.prolly_link.specs.declared.fault.RunFault.{RunFault}
use Rattle.prolly_entry.specs.Record.{Record}
use Rattle.prolly_build.specs.RecordLinks.{Joined}
use Rattle.prolly_build.specs.Mergers.{MergesAll, sent_input}
use Rattle.prolly_build.specs.RunResult.{AreLoaded}

-- The last merger sent these pairs, with this end, of its inputs, which mergers of two made out of
-- what the loaders sent of the sources.
pub record IsGathered {S : Type 0} (seen : S → SourceView) (limit : ℕ) (before after : List S)
    (pairs : List Pair) (end : End) : Type 0 where
  pub loader_outs : List (Batching Record)
  pub files : List (Whole Record)
  pub loaded : AreLoaded seen limit 0 before loader_outs after files
  pub mergers : ℕ
  pub inputs : List (Input RunFault)
  pub joined : Joined mergers (map sent_input files) inputs
  pub merges : MergesAll inputs pairs end
