-- Which failed reads of files are told.
use Rattle.std.specs.Prelude.{◌≡◌, ◌≢◌, ℕ, zero, suc, true, List, ◌∷◌, Result, IfErr}
use Rattle.std.specs.List.{AllByRecursion}
use Rattle.prolly_io.specs.Sink.{SinkView}
use Rattle.prolly_io.specs.Source.{SourceView}
use Rattle.prolly_link.specs.declared.fault.RunFault.{RunFault}
use Rattle.prolly_link.specs.declared.fault.RunFault.TheVariants.{Read}
use Rattle.prolly_root.specs.ChunkFile.{ChunkFile}
use Rattle.prolly_build.specs.Applied.{IsApplyOutcome, OfMaps}
use Rattle.prolly_build.specs.Config.{Settings}
use Rattle.prolly_build.specs.Outcome.{IsOutcome}
use Rattle.prolly_report.specs.declared.apply_fault.ApplyFault.{ApplyFault}
use Rattle.prolly_report.specs.declared.apply_fault.ApplyFault.TheVariants.{Run}
use Rattle.prolly_report.specs.declared.report.Report.{Report}

module _ {S : Type 0} (seen : S → SourceView) where
  -- A read of the source of this number failed.
  abbrev pub HasFailed : ℕ → List S → List S → Type 0
  HasFailed zero (s ∷ ss) (t ∷ ts) = (seen t).failures ≢ (seen s).failures
  HasFailed (suc number) (s ∷ ss) (t ∷ ts) = HasFailed number ss ts
  HasFailed number _ _ = ⊥

  -- Sources none of whose reads fails.
  abbrev pub AreSteady : List S → Type 0
  AreSteady sources = AllByRecursion (λ s. (seen s).is_steady ≡ true) sources

module _ {S W : Type 0} (seen : S → SourceView) (seen_sink : W → SinkView) where
  -- Law: a build tells a failed read of a file only where a read of its source failed.
  abbrev pub AreReadsTrue : Type 0
  AreReadsTrue = (settings : Settings) (before after : List S) (old new : W)
      (result : Result Report RunFault) →
      IsOutcome seen settings before after (seen_sink old) (seen_sink new) (new ≡ old) result →
      IfErr result (λ fault. (file : ℕ) → fault ≡ Read file → HasFailed seen file before after)

  -- Law: so it tells none where the sources are steady.
  abbrev pub NoReadIsTold : Type 0
  NoReadIsTold = (settings : Settings) (before after : List S) (old new : W)
      (result : Result Report RunFault) → AreSteady seen before →
      IsOutcome seen settings before after (seen_sink old) (seen_sink new) (new ≡ old) result →
      IfErr result (λ fault. (file : ℕ) → fault ≢ Read file)

  module _ {D : Type 0} (goes_over : D → ChunkFile → Type 0) where
    -- Law: so it is where changes are applied to an old tree, for any map of the root.
    abbrev pub AreReadsTrueOver : Type 0
    AreReadsTrueOver = (source : D) (settings : Settings) (root : List ℕ) (before after : List S)
        (old new : W) (result : Result Report ApplyFault) →
        IsApplyOutcome seen (goes_over source) settings root before after (seen_sink old)
        (seen_sink new) (new ≡ old) result →
        IfErr result (λ fault. (file : ℕ) → fault ≡ Run (Read file) →
        OfMaps (goes_over source) settings root (λ m. HasFailed seen file before after))

    -- Law: and so none is told where the sources of the changes are steady.
    abbrev pub NoReadIsToldOver : Type 0
    NoReadIsToldOver = (source : D) (settings : Settings) (root : List ℕ) (before after : List S)
        (old new : W) (result : Result Report ApplyFault) → AreSteady seen before →
        IsApplyOutcome seen (goes_over source) settings root before after (seen_sink old)
        (seen_sink new) (new ≡ old) result →
        IfErr result (λ fault. (file : ℕ) → fault ≡ Run (Read file) →
        OfMaps (goes_over source) settings root (λ m. ⊥))
