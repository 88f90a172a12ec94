-- What `build` and `apply` answer over files that are open.
use Rattle.std.specs.Prelude.{◌≡◌, ◌↔◌, ◌<◌, ℕ, List, Option, Result, Ok, Err, IfOk}
use Rattle.std.specs.declared.alloc.AllocError.{AllocError}
use Rattle.prolly_root.specs.ChunkFile.{ChunkFile}
use Rattle.prolly_io.specs.Sink.{SinkView}
use Rattle.prolly_io.specs.Source.{SourceView}
use Rattle.prolly_link.specs.declared.fault.RunFault.{RunFault}
use Rattle.prolly_link.specs.declared.fault.RunFault.TheVariants.{TooManyFiles, TooTall, Write}
use Rattle.prolly_report.specs.declared.apply_fault.ApplyFault.{ApplyFault}
use Rattle.prolly_report.specs.declared.apply_fault.ApplyFault.TheVariants.{Run}
use Rattle.prolly_report.specs.declared.report.Report.{Report}
use Rattle.prolly_build.specs.Applied.{IsApplyOutcome}
use Rattle.prolly_build.specs.Config.{Settings}
use Rattle.prolly_build.specs.GivenBack.{IsGivenBack}
use Rattle.prolly_build.specs.Outcome.{IsOutcome}
use Rattle.prolly_runs.specs.Apply.{ShowsApply}
use Rattle.prolly_fault.specs.Flushes.{IsFlushedAs}
use Rattle.prolly_fault.specs.declared.answer.Answer.{Answer}
use Rattle.prolly_runs.specs.declared.held_back.HeldBack.{HeldBack}
use Rattle.prolly_runs.specs.declared.held_back.HeldBack.TheVariants.{Lost}

-- What a build came to, as the outcome of an `apply`.
abbrev pub of_build : Result Report RunFault → Result Report ApplyFault
of_build (Ok report) = Ok report
of_build (Err fault) = Err (Run fault)

-- What is told of a run behind which the flush failed: a tree that was made, or that is too tall, is
-- told as a failed write, and any other fault as it is.
abbrev pub unflushed : Result Report ApplyFault → Result Report ApplyFault
unflushed (Ok report) = Err (Run Write)
unflushed (Err (Run TooTall)) = Err (Run Write)
unflushed (Err fault) = Err fault

-- What is told of a run, and what became of the sink behind it. Where the run made no tree, and what
-- the sink holds back is to be lost then, the run's fault is told, and the sink is as it was. Else the
-- sink was flushed, and of a flush that failed that is told which `unflushed` makes of the outcome.
abbrev pub IsToldBehind : {W : Type 0} → (W → SinkView) → HeldBack → W → W →
    Result Report ApplyFault → Result Report ApplyFault → Type 0
IsToldBehind sees Lost old new (Err fault) told = (told ≡ Err fault) × (new ≡ old)
IsToldBehind sees held_back old new came told =
    IsFlushedAs sees (unflushed came) old new came told

module _ {S W : Type 0} (seen : S → SourceView) (sees : W → SinkView) where
  -- What `build` answers, over so many sources, before it and after it, and a sink: a build with these
  -- settings came to something, and what is told of that and of the sink behind it is shown.
  pub record AnswersBuild (settings : Settings) (held_back : HeldBack) (count : ℕ)
      (before after : List S) (old new : W) (result : Result Answer AllocError) : Type 0 where
    pub built : Result Report RunFault
    pub mid : W
    pub outcome : IsOutcome seen settings before after (sees old) (sees mid) (mid ≡ old) built
    pub too_many : (built ≡ Err TooManyFiles) ↔ (16 < count)
    pub told : Result Report ApplyFault
    pub tells : IsToldBehind sees held_back mid new (of_build built) told
    pub shows : IfOk result (λ answer. ShowsApply answer told)

  -- What `apply` answers, over the source of an old tree, so many sources of changes, and a sink.
  -- `goes_over` says which chunk files the old tree's source goes over, and `failures` how many of its
  -- calls failed.
  pub record AnswersApply {D : Type 0} (goes_over : D → ChunkFile → Type 0) (failures : D → ℕ)
      (settings : Settings) (held_back : HeldBack) (root : List ℕ) (source : D) (count : ℕ)
      (before after : List S) (old new : W) (result : Result Answer AllocError) : Type 0 where
    pub applied : Result Report ApplyFault
    pub mid : W
    pub outcome : IsApplyOutcome seen (goes_over source) settings root before after (sees old)
        (sees mid) (mid ≡ old) applied
    pub given : Option D
    pub given_back : IsGivenBack goes_over failures source given applied
    pub too_many : (applied ≡ Err (Run TooManyFiles)) ↔ (15 < count)
    pub told : Result Report ApplyFault
    pub tells : IsToldBehind sees held_back mid new applied told
    pub shows : IfOk result (λ answer. ShowsApply answer told)
