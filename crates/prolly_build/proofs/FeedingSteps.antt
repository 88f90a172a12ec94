-- How the records of the files reach the last merger.
use Rattle.std.proofs.Common.{◌≡◌, ℕ, zero, suc, List, ◌∷◌, All, map, refl, ap, sym, subst, ◌∙◌}
use Rattle.prolly_tree.specs.Merge.{Input}
use Rattle.prolly_entry.specs.Record.{Record}
use Rattle.prolly_io.specs.Source.{SourceView}
use Rattle.prolly_link.specs.Views.{Batching, Receiving, Whole}
use Rattle.prolly_link.specs.Progress.{end_given, HasEnded}
use Rattle.prolly_link.specs.declared.fault.RunFault.{RunFault}
use Rattle.prolly_link.specs.declared.message.Progress.TheVariants.{Ended}
use Rattle.prolly_merge.specs.Inputs.{input_of}
use Rattle.prolly_build.specs.RecordLinks.{IsFed}
use Rattle.prolly_build.specs.Lists.{IsForked}
use Rattle.prolly_build.specs.Mergers.{MergesTwo, received_input, sent_input}
use Rattle.prolly_build.specs.RunResult.{AreLoaded}
use Rattle.prolly_build.proofs.FirstOnes.{all_first, all_rest}
use Rattle.prolly_build.proofs.LoaderSteps.{of_all}
use Rattle.prolly_build.proofs.ForkSteps.{forked_map, forked_maps}

-- what was received over a link that was met is what was sent
pub met_input : (r : Receiving Record) (c : Whole Record) → r.items ≡ c.items →
    r.progress ≡ Ended c.end → received_input r ≡ sent_input c
met_input r c items progress =
    ap (λ (xs : List Record). input_of xs (end_given r.progress)) items ∙
    ap (λ p. input_of c.items (end_given p)) progress

module _ {S : Type 0} (seen : S → SourceView) (limit : ℕ) where
  loaded_links : (file : ℕ) (ss : List S) (os : List (Batching Record)) (ts : List S)
      (cs : List (Whole Record)) →
      AreLoaded seen limit file ss os ts cs → map (λ c. c.link) cs ≡ map (λ o. o.link) os
  loaded_links = of_all seen limit (λ _ _ os _ cs. map (λ c. c.link) cs ≡ map (λ o. o.link) os)
      (λ _. refl) (λ file s o t c ss os ts cs h rest. let first = h.writes in cc (first, rest))

  -- loaders alone
  pub fed_by_loaders : (ss : List S) (os : List (Batching Record)) (ts : List S)
      (cs : List (Whole Record)) →
      AreLoaded seen limit 0 ss os ts cs → IsFed seen limit ss ts os cs
  fed_by_loaders ss os ts cs h = record {
    links = loaded_links 0 ss os ts cs h;
    loader_outs = os;
    files = cs;
    loaded = h;
    mergers = zero;
    joined = refl;
  }

  -- one merger of two more
  pub fed_by_merger : (ss ts : List S) (outs outs' : List (Batching Record))
      (closed closed' : List (Whole Record)) (at : ℕ)
      (out left_out right_out : Batching Record) (sent left_sent right_sent : Whole Record) →
      IsFed seen limit ss ts outs' closed' → IsForked at outs out outs' left_out right_out →
      IsForked at closed sent closed' left_sent right_sent →
      sent.link ≡ out.link → MergesTwo (sent_input left_sent) (sent_input right_sent) sent.items
      sent.end →
      IsFed seen limit ss ts outs closed
  fed_by_merger ss ts outs outs' closed closed' at out left_out right_out sent left_sent right_sent
      fed fork fork' writes merges = record {
        links = (forked_maps (λ (c : Whole Record). c.link) (λ (o : Batching Record). o.link) fork'
            fork
            fed.links).2 writes;
        loader_outs = fed.loader_outs;
        files = fed.files;
        loaded = fed.loaded;
        mergers = suc fed.mergers;
        joined = (
          map sent_input closed',
          fed.joined,
          record {
            at = at;
            left = sent_input left_sent;
            right = sent_input right_sent;
            sent = sent.items;
            end = sent.end;
            forked = forked_map sent_input fork';
            merges = merges;
          },
        );
      }

-- the inputs of a merger of two were met
pub merges_met : (left right : Receiving Record) (left_sent right_sent closed : Whole Record) →
    MergesTwo (received_input left) (received_input right) closed.items closed.end →
    (left.items ≡ left_sent.items) × (left.progress ≡ Ended left_sent.end) →
    (right.items ≡ right_sent.items) × (right.progress ≡ Ended right_sent.end) →
    MergesTwo (sent_input left_sent) (sent_input right_sent) closed.items closed.end
merges_met left right left_sent right_sent closed merges left_met right_met =
    subst (λ (i : Input RunFault). MergesTwo i (sent_input right_sent) closed.items closed.end)
    (met_input left left_sent left_met.0 left_met.1)
    (subst (λ (i : Input RunFault). MergesTwo (received_input left) i closed.items closed.end)
    (met_input right right_sent right_met.0 right_met.1) merges)

-- links that were met one by one
pub all_met : (rs : List (Receiving Record)) (cs : List (Whole Record)) (r : Receiving Record)
    (c : Whole Record) (rs' : List (Receiving Record)) (cs' : List (Whole Record)) →
    rs ≡ r ∷ rs' → cs ≡ c ∷ cs' → (HasEnded r.progress → (r.items ≡ c.items) ×
    (r.progress ≡ Ended c.end)) →
    (All (λ x. HasEnded x.progress) rs' → map received_input rs' ≡ map sent_input cs') →
    All (λ x. HasEnded x.progress) rs → map received_input rs ≡ map sent_input cs
all_met rs cs r c rs' cs' rs_is cs_is here there all =
    let ended : HasEnded r.progress = all_first (λ (x : Receiving Record). HasEnded x.progress) rs r
    rs' rs_is all in
    let first = met_input r c (here ended).0 (here ended).1 in
    let rest = there (all_rest (λ (x : Receiving Record). HasEnded x.progress) rs r rs' rs_is all)
    in
    let whole : map received_input (r ∷ rs') ≡ map sent_input (c ∷ cs') = cc (first, rest) in
    ap (λ (xs : List (Receiving Record)). map received_input xs) rs_is ∙
    (whole ∙ sym (ap (λ (xs : List (Whole Record)). map sent_input xs) cs_is))
