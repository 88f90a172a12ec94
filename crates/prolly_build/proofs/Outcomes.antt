-- What a build answers of a run.
use Rattle.std.proofs.Common.{◌≡◌, ◌≢◌, ◌≤◌, ◌+◌, ◌-◌, ℕ, List, length, Result, Err, inl, inr}
use Rattle.std.proofs.Common.{refl, sym, subst}
use Rattle.std.specs.Prelude.{IfErr}
use Rattle.std.proofs.lemmas.Result.{IfErr-weaker}
use Rattle.prolly_entry.specs.Overlay.{overlay}
use Rattle.prolly_io.specs.Source.{SourceView}
use Rattle.prolly_io.specs.Sink.{SinkView}
use Rattle.prolly_link.specs.Identity.{LinkId}
use Rattle.prolly_link.specs.Views.{Batching, Receiving, Whole}
use Rattle.prolly_link.specs.declared.fault.RunFault.{RunFault}
use Rattle.prolly_link.specs.declared.fault.RunFault.TheVariants.{Lost, TooManyFiles}
use Rattle.prolly_entry.specs.Cut.{sha512_cut}
use Rattle.prolly_entry.specs.Pair.{Pair}
use Rattle.prolly_entry.specs.Record.{Record}
use Rattle.prolly_tree.specs.Chunk.{Chunk}
use Rattle.prolly_tree.specs.Events.{leaf_events}
use Rattle.prolly_build.specs.Base.{AreFilesEnded}
use Rattle.prolly_build.specs.BuiltFile.{IsBegun}
use Rattle.prolly_build.specs.Config.{Settings, AreLawful}
use Rattle.prolly_build.specs.End.{IsFinished}
use Rattle.prolly_build.specs.Mergers.{IsMerged}
use Rattle.prolly_build.specs.Outcome.{IsOutcome}
use Rattle.prolly_build.specs.RecordLinks.{IsFed}
use Rattle.prolly_build.specs.Stages.{HasRun}
use Rattle.prolly_build.specs.Workers.{IsStaged}
use Rattle.prolly_report.specs.declared.report.Report.{Report}
use Rattle.prolly_build.proofs.Counted.{LeftAreBytes}
use Rattle.prolly_build.proofs.Makings.{if_ok, if_ok_any}
use Rattle.prolly_build.proofs.Refusals.{source_refused, refused}
use Rattle.prolly_build.proofs.Runs.{lent_staged, source_run, built, not_built, not_counted}
use Rattle.prolly_build.proofs.Runs.{stopped}
use Rattle.prolly_build.proofs.StagingSteps.{HasStaged, files_cut, files_staged}
use Rattle.prolly_build.proofs.Stops.{source_stops}
use Rattle.prolly_build.proofs.Takings.{lost_is_no_memory}

module _ {S : Type 0} (seen : S → SourceView) (settings : Settings) (before after : List S)
    (old new : SinkView) (untouched : Type 0) where
  -- a finished run
  pub finished_outcome : LeftAreBytes seen → AreLawful settings → length before ≤ 16 →
      (sent : Whole Chunk) → HasStaged seen settings (settings.stages - 1) before after sent.items
      sent.end → (result : Result Report RunFault) → IsFinished settings sent old new result →
      IsOutcome seen settings before after old new untouched result
  finished_outcome bytes lawful few sent staged result finished =
      let r = source_run seen settings before after lawful few sent.items sent.end staged in
      record {
        built = if_ok result _ _ _
            (λ clean report file. built r.goods (r.read clean) (file (overlay r.goods) r.run))
            finished.clean finished.made;
        kept = if_ok_any result r.kept;
        unmade = IfErr-weaker result _ _ (λ fault h w. not_built r.goods
            (r.read (h r.input w).clean) ((h r.input w).unmade (overlay r.goods) r.run))
            finished.unmade;
        stopped = IfErr-weaker result _ _ (λ fault h file. stopped fault file
            (source_stops seen settings before after bytes lawful few sent.items sent.end
            fault staged (h file).told) (h file)) finished.stopped;
        refused = IfErr-weaker result _ _
            (λ fault h memory. refused seen settings before after
            (source_refused seen settings before after bytes lawful few sent.items sent.end
            staged (h memory).told) (h memory)) finished.refused;
        begun = finished.begun;
        unstarted = IfErr-weaker result _ _ (λ fault h start. absurd (h r.input start))
            finished.started;
        left_behind = IfErr-weaker result _ _ (λ fault h a b. r.kept) finished.started;
        keeps = finished.keeps;
      }

  -- a worker was lost
  pub lost_outcome : IsBegun settings old new →
      IsOutcome seen settings before after old new untouched (Err Lost)
  lost_outcome begun = record {
    built = tt;
    kept = tt;
    unmade = λ w. absurd w;
    stopped = λ file. absurd file;
    refused = λ memory. absurd (lost_is_no_memory memory);
    begun = λ other. begun;
    unstarted = λ start. absurd start;
    left_behind = λ a b. absurd (b refl);
    keeps = begun.keeps;
  }

  -- the answer of a build over the sources, which were lent
  pub record IsAnswered (result : Result Report RunFault) : Type 0 where
    pub outcome : IsOutcome seen settings before after old new untouched result
    pub started : IfErr result (λ fault. fault ≢ TooManyFiles)

  lost_is_counted : Lost ≡ TooManyFiles → ⊥
  lost_is_counted e = cc

  pub files_outcome : LeftAreBytes seen → AreLawful settings → length before ≤ 16 → (level : ℕ) →
      level + 1 ≡ settings.stages → (lent : List S) → lent ≡ before →
      (Made : Whole Chunk → Type 0) (out : Whole Chunk)
      (run : HasRun Made settings level out.items out.end) (cut : ℕ) → cut ≡ settings.bits →
      (pairs : Receiving Pair) (link : LinkId) (ended : Receiving Pair) →
      IsStaged (leaf_events (sha512_cut cut) settings.version) pairs link ended run.leaves →
      (inputs : List (Receiving Record)) (passes : LinkId) (inputs' : List (Receiving Record))
      (sent : Whole Pair) → IsMerged inputs passes inputs' sent →
      (outs : List (Batching Record)) (fed : List (Whole Record)) →
      IsFed seen settings.max_records lent after outs fed →
      (result : Result Report RunFault) →
      AreFilesEnded settings ended inputs' sent fed out old new result → IsAnswered result
  files_outcome bytes lawful few level levels lent same Made out run cut cut_is pairs link ended
      staged inputs passes inputs' sent merged outs fed feeds result (inl met) =
      let has = lent_staged levels same (files_staged seen settings level lent after Made out.items
      out.end run (files_cut seen settings lent after cut cut_is pairs link ended run.leaves staged
      inputs passes inputs' sent merged outs fed feeds met.feed met.pairs_met)) in
      let r = source_run seen settings before after lawful few out.items out.end has in
      record {
        outcome = finished_outcome bytes lawful few out has result met.finished;
        started = IfErr-weaker result _ _ (λ fault h. not_counted fault (h r.input))
            met.finished.started;
      }
  files_outcome bytes lawful few level levels lent same Made out run cut cut_is pairs link ended
      staged inputs passes inputs' sent merged outs fed feeds result (inr lost) =
      subst IsAnswered (sym lost.0) (record {
        outcome = lost_outcome lost.1;
        started = lost_is_counted;
      })
