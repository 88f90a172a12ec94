-- What the workers below the stages of nodes give back.
use Rattle.std.specs.Prelude.{◌≡◌, ◌⊎◌, List, All, map, Result, Err}
use Rattle.prolly_entry.specs.Pair.{Pair}
use Rattle.prolly_entry.specs.Record.{Record}
use Rattle.prolly_link.specs.Identity.{LinkId}
use Rattle.prolly_link.specs.Views.{Batching, Receiving, Whole}
use Rattle.prolly_link.specs.Progress.{HasEnded}
use Rattle.prolly_link.specs.declared.message.Progress.TheVariants.{Ended}
use Rattle.prolly_link.specs.declared.fault.RunFault.{RunFault}
use Rattle.prolly_link.specs.declared.fault.RunFault.TheVariants.{Lost}
use Rattle.prolly_io.specs.Sink.{SinkView}
use Rattle.prolly_tree.specs.Chunk.{Chunk}
use Rattle.prolly_build.specs.BuiltFile.{IsBegun}
use Rattle.prolly_build.specs.Config.{Settings}
use Rattle.prolly_build.specs.End.{IsFinished}
use Rattle.prolly_build.specs.Mergers.{received_input, sent_input}
use Rattle.prolly_report.specs.declared.report.Report.{Report}

-- What is given back went over the link that was given.
abbrev pub GoesOver : {D T : Type 0} → (LinkId → D → Whole T → Type 0) → Type 0
GoesOver {D} {T} Gives = (link : LinkId) (done : D) (closed : Whole T) → Gives link done closed →
    closed.link ≡ link

-- The stage of the leaves did its job, over some link, and so did the worker in the middle; and the
-- feed carried what it should.
pub record IsBase {D N T : Type 0} (Cuts : LinkId → D → Whole Chunk → Type 0)
    (Passes : N → Whole T → Type 0) (Fed : List (Whole Record) → Type 0) (leaves : D) (middle : N)
    (sent : Whole T) (closed : List (Whole Record)) (cut : Whole Chunk) : Type 0 where
  pub link : LinkId
  pub cuts : Cuts link leaves cut
  pub passes : Passes middle sent
  pub fed : Fed closed

-- The output of the last merger goes to the stage of the leaves, and those of the feed to the inputs
-- of the last merger.
pub record AreFilesPaired (out : Batching Pair) (pairs : Receiving Pair) (outs : List (Batching Record))
    (inputs : List (Receiving Record)) : Type 0 where
  pub pairs_link : out.link ≡ pairs.link
  pub feed : map (λ o. o.link) outs ≡ map (λ r. r.link) inputs

-- The links from the files to the stage of the leaves were met, and the run is finished; or one of
-- them has lost its sender.
pub record AreFilesMet (settings : Settings) (pairs : Receiving Pair) (inputs : List (Receiving Record))
    (sent : Whole Pair) (closed : List (Whole Record)) (out : Whole Chunk) (old new : SinkView)
    (result : Result Report RunFault) : Type 0 where
  pub feed : All (λ r. HasEnded r.progress) inputs →
      map received_input inputs ≡ map sent_input closed
  pub pairs_met : HasEnded pairs.progress → (pairs.items ≡ sent.items) ×
      (pairs.progress ≡ Ended sent.end)
  pub finished : IsFinished settings out old new result

-- All that runs below the stages has ended: files and links met, or a worker was lost and no end
-- record is begun.
abbrev pub AreFilesEnded : Settings → Receiving Pair → List (Receiving Record) → Whole Pair →
    List (Whole Record) → Whole Chunk → SinkView → SinkView → Result Report RunFault → Type 0
AreFilesEnded settings pairs inputs sent closed out old new result =
    AreFilesMet settings pairs inputs sent closed out old new result
    ⊎ ((result ≡ Err Lost) × IsBegun settings old new)
