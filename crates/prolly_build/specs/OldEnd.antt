-- What the end of a run over an old tree makes of it, once its workers have all ended.
use Rattle.std.specs.Prelude.{◌≡◌, ◌⊎◌, Bool, List, Option, Result, Ok, Err}
use Rattle.prolly_entry.specs.Pair.{Pair}
use Rattle.prolly_entry.specs.Record.{Record}
use Rattle.prolly_io.specs.Sink.{SinkView}
use Rattle.prolly_link.specs.Views.{Receiving, Whole}
use Rattle.prolly_link.specs.Progress.{HasEnded}
use Rattle.prolly_link.specs.declared.fault.RunFault.{RunFault}
use Rattle.prolly_link.specs.declared.fault.RunFault.TheVariants.{Lost}
use Rattle.prolly_link.specs.declared.message.Progress.TheVariants.{Ended}
use Rattle.prolly_root.specs.declared.root_fault.RootFault.{RootFault}
use Rattle.prolly_tree.specs.Chunk.{Chunk}
use Rattle.prolly_build.specs.Applied.{IsTold}
use Rattle.prolly_build.specs.BuiltFile.{IsBegun}
use Rattle.prolly_build.specs.Config.{Settings}
use Rattle.prolly_build.specs.End.{IsFinished}
use Rattle.prolly_build.specs.Mergers.{received_input}
use Rattle.prolly_build.specs.OldBase.{first_sent}
use Rattle.prolly_report.specs.declared.apply_fault.ApplyFault.{ApplyFault}
use Rattle.prolly_report.specs.declared.apply_fault.ApplyFault.TheVariants.{Run}
use Rattle.prolly_report.specs.declared.report.Report.{Report}

-- The answer that is told of a finished run's.
abbrev pub TellsOf : Bool → Option RootFault → Result Report RunFault → Result Report ApplyFault →
    Type 0
TellsOf refused fault (Ok report) (Ok told) = told ≡ report
TellsOf refused fault (Err run) (Err told) = IsTold run refused fault told
TellsOf refused fault run told = ⊥

-- The links into the stage of the leaves were met, and the run is finished.
pub record IsOldMet (settings : Settings) (leaves : Receiving (List Pair))
    (changes : Receiving Record) (refused : Bool) (fault : Option RootFault)
    (sent : Whole (List Pair)) (senders : List (Whole Record)) (out : Whole Chunk)
    (old new : SinkView) (result : Result Report ApplyFault) : Type 0 where
  pub leaves_met : HasEnded leaves.progress → (leaves.items ≡ sent.items) ×
      (leaves.progress ≡ Ended sent.end)
  pub changes_met : HasEnded changes.progress → received_input changes ≡ first_sent senders
  pub answer : Result Report RunFault
  pub finished : IsFinished settings out old new answer
  pub told : TellsOf refused fault answer result

-- Or one of the links has lost its sender.
abbrev pub IsOldEnded : Settings → Receiving (List Pair) → Receiving Record → Bool →
    Option RootFault → Whole (List Pair) → List (Whole Record) → Whole Chunk → SinkView →
    SinkView → Result Report ApplyFault → Type 0
IsOldEnded settings leaves changes refused fault sent senders out old new result =
    IsOldMet settings leaves changes refused fault sent senders out old new result
    ⊎ ((result ≡ Err (Run Lost)) × IsBegun settings old new)
