-- Stages over links that were met.
use Rattle.std.proofs.Common.{◌≡◌, ◌⊎◌, ℕ, suc, ◌+◌, List, [], All, map, inl, inr, refl, ap, sym}
use Rattle.std.proofs.Common.{subst, ◌∙◌, add-one}
use Rattle.prolly_entry.specs.declared.version.Version.{Version}
use Rattle.prolly_tree.specs.Chunk.{Chunk}
use Rattle.prolly_entry.specs.Cut.{sha512_cut}
use Rattle.prolly_tree.specs.Events.{Closing, leaf_events, inner_events}
use Rattle.prolly_entry.specs.Pair.{Pair}
use Rattle.prolly_tree.specs.Pipeline.{pipeline_events}
use Rattle.prolly_io.specs.Source.{SourceView}
use Rattle.prolly_link.specs.Identity.{LinkId}
use Rattle.prolly_link.specs.Views.{Batching, Receiving, Whole}
use Rattle.prolly_link.specs.Progress.{end_given, HasEnded}
use Rattle.prolly_link.specs.declared.fault.RunFault.{RunFault}
use Rattle.prolly_entry.specs.Record.{Record}
use Rattle.prolly_tree.specs.Merge.{Input}
use Rattle.prolly_link.specs.declared.fault.RunFault.TheVariants.{Memory}
use Rattle.prolly_link.specs.declared.message.End.{End}
use Rattle.prolly_link.specs.declared.message.End.TheVariants.{Fault}
use Rattle.prolly_link.specs.declared.message.Progress.TheVariants.{Ended}
use Rattle.prolly_stage.specs.Sends.{Sends}
use Rattle.prolly_stage.specs.lemmas.Joins.{stage_follows}
use Rattle.prolly_build.specs.LastMerger.{IsGathered}
use Rattle.prolly_build.specs.Config.{Settings}
use Rattle.prolly_build.specs.Stages.{HasCut, HasRun}
use Rattle.prolly_build.specs.Mergers.{IsMerged, MergesAll, received_input, sent_input}
use Rattle.prolly_build.specs.RecordLinks.{IsFed}
use Rattle.prolly_build.specs.Workers.{IsStaged}

-- what a stage sent of a link that was met, it sent of what its sender sent
sends_met : {A : Type 0} (stage : Closing → List A → List Chunk) (input : Receiving A)
    (link : LinkId) (ended : Receiving A) (closed : Whole Chunk) (sent : Whole A) →
    IsStaged stage input link ended closed → (ended.items ≡ sent.items) ×
    (ended.progress ≡ Ended sent.end) →
    Sends stage sent.items sent.end [] closed.items closed.end
sends_met {A} stage input link ended closed sent h met =
    subst (λ (xs : List A). Sends stage xs sent.end [] closed.items closed.end) met.0
    (subst (λ (e : End). Sends stage ended.items e [] closed.items closed.end) (ap end_given met.1)
    h.sends)

-- what the stage of the leaves of a build cut, once the links below it are met
pub files_cut : {S : Type 0} (seen : S → SourceView) (settings : Settings) (before after : List S)
    (cut : ℕ) → cut ≡ settings.bits → (pairs : Receiving Pair) (link : LinkId)
    (ended : Receiving Pair) (closed : Whole Chunk) →
    IsStaged (leaf_events (sha512_cut cut) settings.version) pairs link ended closed →
    (inputs : List (Receiving Record)) (out : LinkId) (inputs' : List (Receiving Record))
    (sent : Whole Pair) → IsMerged inputs out inputs' sent →
    (outs : List (Batching Record)) (fed : List (Whole Record)) →
    IsFed seen settings.max_records before after outs fed →
    (All (λ r. HasEnded r.progress) inputs' → map received_input inputs' ≡ map sent_input fed) →
    (HasEnded ended.progress → (ended.items ≡ sent.items) × (ended.progress ≡ Ended sent.end)) →
    HasCut seen settings before after closed
files_cut seen settings before after cut cut_is pairs link ended closed h inputs out inputs' sent
    merged outs fed feeds feed_met pairs_met = record {
      pairs = sent.items;
      pairs_end = sent.end;
      gathered = record {
        loader_outs = feeds.loader_outs;
        files = feeds.files;
        loaded = feeds.loaded;
        mergers = feeds.mergers;
        inputs = map sent_input fed;
        joined = feeds.joined;
        merges = subst (λ (is : List (Input RunFault)). MergesAll is sent.items sent.end)
            (feed_met merged.have_ended) merged.merges;
      };
      cut = subst (λ (q : ℕ). Sends (leaf_events (sha512_cut q) settings.version) sent.items
          sent.end [] closed.items closed.end) cut_is
          (sends_met (leaf_events (sha512_cut cut) settings.version) pairs link ended closed sent h
          (pairs_met h.has_ended));
    }

-- the leaves alone
pub leaves_run : (Made : Whole Chunk → Type 0) (settings : Settings) (level : ℕ)
    (leaves : Whole Chunk) → level ≡ 0 → Made leaves →
    HasRun Made settings level leaves.items leaves.end
leaves_run Made settings level leaves level_is made = record {
  leaves = leaves;
  made = made;
  staged = λ pairs end h.
      subst (λ (l : ℕ). Sends (pipeline_events l (sha512_cut settings.bits) settings.version) pairs
      end [] leaves.items leaves.end) (sym level_is) h;
  end_is = inl refl;
}

-- what a worker that sends ends with
ends_so : {A B : Type 0} (stage : Closing → List A → List B) (received : List A) (end : End)
    (sent : List B) (last first : End) → Sends stage received end [] sent last →
    (end ≡ first) ⊎ (end ≡ Fault Memory) → (last ≡ first) ⊎ (last ≡ Fault Memory)
ends_so stage received end sent last first (inl h) (inl e) = inl (h.1 ∙ e)
ends_so stage received end sent last first (inl h) (inr e) = inr (h.1 ∙ e)
ends_so stage received end sent last first (inr h) e = inr h.0

-- one stage more
pub nodes_run : (Made : Whole Chunk → Type 0) (settings : Settings) (n level top cut : ℕ)
    (version : Version) → level ≡ n + 1 → top ≡ n + 1 →
    cut ≡ settings.bits → version ≡ settings.version →
    (input : Receiving Chunk) (link : LinkId) (ended : Receiving Chunk)
    (closed : Whole Chunk) (sent : Whole Chunk) →
    HasRun Made settings n sent.items sent.end →
    IsStaged (inner_events level (sha512_cut cut) version) input link ended closed →
    (ended.items ≡ sent.items) × (ended.progress ≡ Ended sent.end) →
    HasRun Made settings top closed.items closed.end
nodes_run Made settings n level top cut version level_is top_is cut_is version_is input link ended
    closed sent below h met =
    let mine : Sends (inner_events (suc n) (sha512_cut settings.bits) settings.version) sent.items
    sent.end [] closed.items closed.end =
    subst (λ (l : ℕ). Sends (inner_events l (sha512_cut settings.bits) settings.version)
    sent.items sent.end [] closed.items closed.end) (level_is ∙ add-one n)
    (subst (λ (q : ℕ). Sends (inner_events level (sha512_cut q) settings.version) sent.items
    sent.end [] closed.items closed.end) cut_is
    (subst (λ (v : Version). Sends (inner_events level (sha512_cut cut) v) sent.items sent.end []
    closed.items closed.end) version_is
    (sends_met (inner_events level (sha512_cut cut) version) input link ended closed sent h met)))
    in
    record {
      leaves = below.leaves;
      made = below.made;
      staged = λ pairs end leaves. subst (λ (l : ℕ). Sends (pipeline_events l
          (sha512_cut settings.bits) settings.version) pairs end [] closed.items closed.end)
          (sym (top_is ∙ add-one n))
          (stage_follows (sha512_cut settings.bits) settings.version n pairs end
          sent.items sent.end closed.items closed.end (below.staged pairs end leaves) mine);
      end_is = ends_so (inner_events (suc n) (sha512_cut settings.bits) settings.version) sent.items
          sent.end closed.items closed.end below.leaves.end mine below.end_is;
    }

-- what the stage of a level of a build sent: what the pipeline up to it makes of the pairs of the
-- last merger
pub record HasStaged {S : Type 0} (seen : S → SourceView) (settings : Settings) (level : ℕ)
    (before after : List S) (events : List Chunk) (end : End) : Type 0 where
  pub pairs : List Pair
  pub pairs_end : End
  pub gathered : IsGathered seen settings.max_records before after pairs pairs_end
  pub staged : Sends (pipeline_events level (sha512_cut settings.bits) settings.version) pairs
      pairs_end [] events end

pub files_staged : {S : Type 0} (seen : S → SourceView) (settings : Settings) (level : ℕ)
    (before after : List S) (Made : Whole Chunk → Type 0) (events : List Chunk) (end : End)
    (h : HasRun Made settings level events end) → HasCut seen settings before after h.leaves →
    HasStaged seen settings level before after events end
files_staged seen settings level before after Made events end h cut = record {
  pairs = cut.pairs;
  pairs_end = cut.pairs_end;
  gathered = cut.gathered;
  staged = h.staged cut.pairs cut.pairs_end cut.cut;
}
