-- What the driver's parts give back.
use Rattle.std.specs.Prelude.{◌≡◌, ℕ, ◌-◌, ◌+◌, List, [], ◌∷◌, Result, IfOk, IfErr}
use Rattle.prolly_tree.specs.Chunk.{Chunk}
use Rattle.prolly_entry.specs.Record.{Record}
use Rattle.prolly_tree.specs.File.{header}
use Rattle.prolly_io.specs.Source.{SourceView}
use Rattle.prolly_io.specs.Sink.{SinkView}
use Rattle.prolly_link.specs.Views.{Batching, Receiving, Whole}
use Rattle.prolly_link.specs.Progress.{end_given, HasEnded}
use Rattle.prolly_link.specs.declared.message.Progress.TheVariants.{Open}
use Rattle.prolly_link.specs.declared.fault.RunFault.{RunFault}
use Rattle.prolly_link.specs.declared.fault.RunFault.TheVariants.{NoThread as NoThread_fault}
use Rattle.prolly_link.specs.declared.fault.RunFault.TheVariants.{Lost as Lost_fault}
use Rattle.prolly_build.specs.declared.end.Halt.{Halt}
use Rattle.prolly_build.specs.declared.end.Halt.TheVariants.{NoThread, Lost}
use Rattle.prolly_build.specs.Config.{Settings}
use Rattle.prolly_build.specs.BuiltFile.{IsBegun}
use Rattle.prolly_build.specs.WriterState.{HasWritten}
use Rattle.prolly_build.specs.Workers.{IsLoadedFrom}
use Rattle.prolly_build.specs.declared.run.writer.WriterResult.{WriterResult}

-- The writer has received the last link to its end, and has written what it received.
pub record IsWriterDone (settings : Settings) (last : Receiving Chunk) (old new : SinkView)
    (wrote : WriterResult) : Type 0 where
  pub link : wrote.last.link ≡ last.link
  pub has_ended : HasEnded wrote.last.progress
  pub end_is : wrote.end ≡ end_given wrote.last.progress
  pub written : HasWritten (header settings.version settings.bits) (settings.stages - 1)
      wrote.last.items old new wrote.written

-- What each level of the run hands on of the writer at its bottom, whose part of the result `wrote`
-- names.
pub record HandsOn {T : Type 0} (settings : Settings) (last : Receiving Chunk) (old new : SinkView)
    (untouched : Type 0)
    (result : Result T Halt) (wrote : T → WriterResult) : Type 0 where
  -- All workers were met: the writer has received the last link to its end, and has written what it
  -- received.
  pub written : IfOk result (λ t. IsWriterDone settings last old new (wrote t))
  -- A worker was not started: the sink is as it was.
  pub refused : IfErr result (λ halt. halt ≡ NoThread → untouched)
  -- Some worker was not started or not met: no end record is begun.
  pub begun : IfErr result (λ halt. IsBegun settings old new)

-- Each source was loaded into the output of its place, the first one being file number `file`.
abbrev pub AreLoaded : {S : Type 0} → (S → SourceView) → ℕ → ℕ → List S → List (Batching Record) →
    List S → List (Whole Record) → Type 0
AreLoaded seen limit file [] [] [] [] = Unit {0}
AreLoaded seen limit file (s ∷ ss) (o ∷ os) (t ∷ ts) (c ∷ cs) =
    IsLoadedFrom seen file limit s o.link t c × AreLoaded seen limit (file + 1) ss os ts cs
AreLoaded seen limit file _ _ _ _ = ⊥

-- Nothing was sent yet.
abbrev pub IsUnsent : {T : Type 0} → Batching T → Type 0
IsUnsent out = out.items ≡ []

-- Nothing was received yet.
abbrev pub IsUnreceived : {T : Type 0} → Receiving T → Type 0
IsUnreceived r = (r.items ≡ []) × (r.progress ≡ Open)

-- The fault that a halt becomes.
abbrev pub IsHaltFault : Halt → RunFault → Type 0
IsHaltFault NoThread fault = fault ≡ NoThread_fault
IsHaltFault Lost fault = fault ≡ Lost_fault
