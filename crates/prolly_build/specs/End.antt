-- What the end of a build makes of a run whose workers have all ended.
use Rattle.std.specs.Prelude.{◌≡◌, ◌≢◌, ◌-◌, ◌<◌, ◌^◌, true, List, length, Result, IfOk, IfErr}
use Rattle.std.specs.Prelude.{OnOk}
use Rattle.prolly_entry.specs.Cut.{sha512_cut}
use Rattle.prolly_entry.specs.Pair.{Pair}
use Rattle.prolly_tree.specs.Chunk.{Chunk}
use Rattle.prolly_tree.specs.Events.{faulty}
use Rattle.prolly_tree.specs.File.{header}
use Rattle.prolly_tree.specs.Pipeline.{pipeline_events, before_second}
use Rattle.prolly_io.specs.Sink.{SinkView, TakesPrefix}
use Rattle.prolly_link.specs.Views.{Whole}
use Rattle.prolly_link.specs.declared.message.End.TheVariants.{Clean, Fault}
use Rattle.prolly_link.specs.declared.fault.RunFault.{RunFault}
use Rattle.prolly_link.specs.declared.fault.RunFault.TheVariants.{Memory, Write}
use Rattle.prolly_build.specs.BuiltFile.{IsBegun, IsMadeFile, IsUnmadeOf, IsStartFault}
use Rattle.prolly_build.specs.BuiltFile.{IsInputEnd, IsRunOf, IsWriterFault}
use Rattle.prolly_build.specs.Config.{Settings}
use Rattle.prolly_build.specs.InputFaults.{IsFileFault, TookBegun}
use Rattle.prolly_build.specs.WriterState.{frames_of}
use Rattle.prolly_report.specs.declared.report.Report.{Report}

-- The writer was at fault, all that was sent came to it, and of a map that this is a run of the file
-- was not made.
pub record IsUnmadeRun (settings : Settings) (sent : Whole Chunk) (old new : SinkView)
    (fault : RunFault) : Type 0 where
  pub clean : sent.end ≡ Clean
  pub unmade : (m : List Pair) → IsRunOf settings m sent.items sent.end →
      IsUnmadeOf settings m old new fault

-- A record file was at fault: what was written is that of the pairs before the fault.
pub record IsStoppedAt (settings : Settings) (sent : Whole Chunk) (old new : SinkView)
    (fault : RunFault) : Type 0 where
  pub told : sent.end ≡ Fault fault
  pub took : (p : List Pair) → length p < 2 ^ 64 → sent.items ≡ pipeline_events
      (settings.stages - 1) (sha512_cut settings.bits) settings.version faulty p →
      TookBegun settings p old new

-- Memory was refused to a worker: frames of what was sent were written, and no more.
pub record IsRefusedAt (settings : Settings) (sent : Whole Chunk) (old new : SinkView) : Type 0
  where
    pub told : sent.end ≡ Fault Memory
    pub took : old.is_keeping ≡ true → TakesPrefix old.taken new.taken
        (frames_of (header settings.version settings.bits)
        (before_second (settings.stages - 1) sent.items))

-- The answer of a run whose last stage sent this, and what the sink holds then.
pub record IsFinished (settings : Settings) (sent : Whole Chunk) (old new : SinkView)
    (result : Result Report RunFault) : Type 0 where
  -- The file of the map that this is a run of was made, after a clean end alone.
  pub made : IfOk result (λ report. (m : List Pair) → IsRunOf settings m sent.items sent.end →
      IsMadeFile settings m old new report)
  pub clean : OnOk result (sent.end ≡ Clean)
  -- The writer was at fault, where the workers sent an end that they may send.
  pub unmade : IfErr result (λ fault. IsInputEnd sent.end → IsWriterFault fault →
      IsUnmadeRun settings sent old new fault)
  -- A record file was at fault.
  pub stopped : IfErr result (λ fault. IsFileFault fault →
      IsStoppedAt settings sent old new fault)
  -- Memory was refused to a worker.
  pub refused : IfErr result (λ fault. fault ≡ Memory → IsRefusedAt settings sent old new)
  -- No end record is begun, unless a write failed.
  pub begun : IfErr result (λ fault. fault ≢ Write → IsBegun settings old new)
  -- The workers were started, where they sent an end that they may send.
  pub started : IfErr result (λ fault. IsInputEnd sent.end → IsStartFault fault → ⊥)
  -- The sink keeps what it takes, if it did.
  pub keeps : old.is_keeping ≡ true → new.is_keeping ≡ true
