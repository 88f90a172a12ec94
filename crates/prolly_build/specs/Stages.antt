-- What the stages of a run sent.
use Rattle.std.specs.Prelude.{◌≡◌, ℕ, ◌⊎◌, List, []}
use Rattle.prolly_tree.specs.Chunk.{Chunk}
use Rattle.prolly_tree.specs.Events.{leaf_events}
use Rattle.prolly_entry.specs.Cut.{sha512_cut}
use Rattle.prolly_entry.specs.Pair.{Pair}
use Rattle.prolly_tree.specs.Pipeline.{pipeline_events}
use Rattle.prolly_io.specs.Source.{SourceView}
use Rattle.prolly_link.specs.Views.{Whole}
use Rattle.prolly_link.specs.declared.message.End.{End}
use Rattle.prolly_link.specs.declared.message.End.TheVariants.{Fault}
use Rattle.prolly_link.specs.declared.fault.RunFault.TheVariants.{Memory}
use Rattle.prolly_stage.specs.Sends.{Sends}
use Rattle.prolly_build.specs.LastMerger.{IsGathered}
use Rattle.prolly_build.specs.Config.{Settings}

-- The stage of the leaves sent these, with their end: what it makes of the pairs of the last merger.
pub record HasCut {S : Type 0} (seen : S → SourceView) (settings : Settings) (before after : List S)
    (leaves : Whole Chunk) : Type 0 where
  pub pairs : List Pair
  pub pairs_end : End
  pub gathered : IsGathered seen settings.max_records before after pairs pairs_end
  pub cut : Sends (leaf_events (sha512_cut settings.bits) settings.version) pairs pairs_end []
      leaves.items leaves.end

-- The stage of a level sent these events, with this end, of leaves of which something is known.
pub record HasRun (Made : Whole Chunk → Type 0) (settings : Settings) (level : ℕ)
    (events : List Chunk) (end : End) : Type 0 where
  pub leaves : Whole Chunk
  pub made : Made leaves
  -- Of whatever pairs the leaves are, it sent what the pipeline up to it makes of them.
  pub staged : (pairs : List Pair) (pairs_end : End) →
      Sends (leaf_events (sha512_cut settings.bits) settings.version) pairs pairs_end []
      leaves.items leaves.end →
      Sends (pipeline_events level (sha512_cut settings.bits) settings.version) pairs pairs_end []
      events end
  -- The end is that of the leaves, or it tells that memory was refused.
  pub end_is : (end ≡ leaves.end) ⊎ (end ≡ Fault Memory)
