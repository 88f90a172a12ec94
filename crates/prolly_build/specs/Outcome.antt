-- What a build has answered, and what it has made of its sources and of the sink then.
use Rattle.std.specs.Prelude.{◌≡◌, ◌≢◌, true, List, Result, IfOk, IfErr, OnOk}
use Rattle.prolly_io.specs.Sink.{SinkView}
use Rattle.prolly_io.specs.Source.{SourceView}
use Rattle.prolly_link.specs.declared.fault.RunFault.{RunFault}
use Rattle.prolly_link.specs.declared.fault.RunFault.TheVariants.{Memory, Write, NoThread, Lost}
use Rattle.prolly_build.specs.BuiltFile.{IsBegun, IsBuilt, IsUnmade, IsStartFault, IsWriterFault}
use Rattle.prolly_build.specs.BuiltFile.{AreKept}
use Rattle.prolly_build.specs.Refusals.{IsRefused}
use Rattle.prolly_build.specs.Config.{Settings}
use Rattle.prolly_build.specs.InputFaults.{IsFileFault, IsStopped}
use Rattle.prolly_report.specs.declared.report.Report.{Report}

-- All that a build with these settings promises of its answer: of the sources before and after it,
-- of which `seen` is what a contract sees, and of the sink as a contract sees it before and after.
-- `untouched` says that the sink is as it was.
pub record IsOutcome {S : Type 0} (seen : S → SourceView) (settings : Settings)
    (before after : List S) (old new : SinkView) (untouched : Type 0)
    (result : Result Report RunFault) : Type 0 where
  -- A report: each source was read to its end, the sink took the chunk file of the overlay of their
  -- records, and the report is that of its tree.
  pub built : IfOk result (IsBuilt seen settings before after old new)
  -- The sources are there then, each as its loader left it.
  pub kept : OnOk result (AreKept seen before after)
  -- A fault of the writer: each source was read to its end, and the file of the overlay was not
  -- made, for this fault.
  pub unmade : IfErr result (λ fault. IsWriterFault fault →
      IsUnmade seen settings before after old new fault)
  -- A fault of a record file: it is the one that the files decide, and the sink took the chunks
  -- that the pairs before it close.
  pub stopped : IfErr result (λ fault. IsFileFault fault →
      IsStopped seen settings before after old new fault)
  -- Want of memory: the sink took a prefix of the file, without its end record, of the first pairs
  -- of the overlay of all good records.
  pub refused : IfErr result (λ fault. fault ≡ Memory →
      IsRefused seen settings before old new)
  -- Every fault but a failed write: no end record is begun.
  pub begun : IfErr result (λ fault. fault ≢ Write → IsBegun settings old new)
  -- A fault that comes before anything is started: the sink is as it was.
  pub unstarted : IfErr result (λ fault. IsStartFault fault → untouched)
  -- Every fault but want of a thread and a lost worker: the sources are there, each as its loader
  -- left it.
  pub left_behind : IfErr result (λ fault. fault ≢ NoThread → fault ≢ Lost →
      AreKept seen before after)
  -- The sink keeps what it takes, if it did.
  pub keeps : old.is_keeping ≡ true → new.is_keeping ≡ true
