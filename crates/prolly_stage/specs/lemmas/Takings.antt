-- What the writer behind a pipeline takes.
use Rattle.std.proofs.Common.{◌≡◌, ℕ, suc, ◌<◌, ◌↔◌, List, [], sym, ◌∙◌, ap, subst, inl, inr}
use Rattle.std.proofs.lemmas.List.{append-nil}
use Rattle.prolly_entry.specs.declared.version.Version.{Version}
use Rattle.prolly_entry.specs.Prefix.{IsPrefix}
use Rattle.prolly_entry.specs.Pair.{Pair}
use Rattle.prolly_entry.specs.Cut.{Cut}
use Rattle.prolly_tree.specs.Tree.{level_count}
use Rattle.prolly_tree.specs.Chunk.{Chunk, chunks}
use Rattle.prolly_tree.specs.Events.{Closing, clean, faulty}
use Rattle.prolly_tree.specs.Pipeline.{pipeline_events, within_stages, HasSecond, StagesMakeTree}
use Rattle.prolly_link.specs.declared.message.End.{End}
use Rattle.prolly_link.specs.declared.message.End.TheVariants.{Clean, Fault}
use Rattle.prolly_link.specs.declared.fault.RunFault.{RunFault}
use Rattle.prolly_link.specs.declared.fault.RunFault.TheVariants.{Memory}
use Rattle.prolly_stage.specs.Sends.{closing_of, SendsPrefix}
use Rattle.prolly_stage.specs.Workers.{TakesTree, WriterTakes}
use Rattle.prolly_entry.specs.lemmas.Lists.{prefix_trans}
use Rattle.prolly_laws.specs.Stages.{within_is_prefix}
use Rattle.prolly_stage.specs.lemmas.Joins.{pipeline_keeps}

module _ (cut : Cut) (version : Version) (m : List Pair) (n : ℕ)
    (tree : StagesMakeTree cut version m n) where
  abbrev pipeline : Closing → List Chunk
  pipeline closing = pipeline_events n cut version closing m

  abbrev taken : List Chunk → List Chunk
  taken events = within_stages (suc n) events

  -- However the pairs close, the pipeline makes a prefix of what it makes at a clean end.
  part_of_clean : (closing : Closing) → IsPrefix (pipeline closing) (pipeline clean)
  part_of_clean clean = ([], sym (append-nil (pipeline clean)))
  part_of_clean faulty =
      let p = pipeline_keeps cut version n clean m [] in
      (p.0, ap (pipeline_events n cut version clean) (sym (append-nil m)) ∙ p.1)

  -- Of a prefix of that the writer takes a prefix of what it takes of the tree.
  prefix_taken : (closing : Closing) (sent : List Chunk) → IsPrefix sent (pipeline closing) →
      IsPrefix (taken sent) (taken (chunks cut version m))
  prefix_taken closing sent p =
      let q = (within_is_prefix (suc n) sent (pipeline clean)
      (prefix_trans sent (pipeline closing) (pipeline clean) p (part_of_clean closing))).0 in
      (q.0, sym tree.0 ∙ q.1)

  all_sent : (end : End) (sent : List Chunk) (last : End) → sent ≡ pipeline (closing_of end) →
      last ≡ end → TakesTree cut version m n end sent last
  all_sent end sent last s l =
      let sent_at = λ (other : End) (e : last ≡ other). s ∙
      ap (λ e. pipeline (closing_of e)) (sym l ∙ e) in
      record {
        clean_end = λ e. sym l ∙ e;
        clean = λ e. ap taken (sent_at Clean e) ∙ tree.0;
        tall = λ e. let P : List Chunk → Type 0 =
            λ events. HasSecond n events ↔ (suc n < level_count cut version m) in
            subst P (sym (sent_at Clean e)) tree.1;
        fault_end = λ fault e other. sym l ∙ e;
        fault = λ fault e other. ap taken (sent_at (Fault fault) e) ∙ tree.2;
        memory = λ e. prefix_taken (closing_of end) sent ([], sym s ∙ sym (append-nil sent));
      }

  part_sent : (end : End) (sent : List Chunk) (last : End) → last ≡ Fault Memory →
      SendsPrefix (pipeline (closing_of end)) [] sent →
      TakesTree cut version m n end sent last
  part_sent end sent last l p =
      let not_clean : last ≡ Clean → ⊥ = λ e. (let bad : Fault Memory ≡ Clean = sym l ∙ e in cc) in
      let same : (fault : RunFault) → last ≡ Fault fault → fault ≡ Memory =
      λ fault e. (let f : Fault fault ≡ Fault Memory = sym e ∙ l in cc) in
      record {
        clean_end = λ e. absurd (not_clean e);
        clean = λ e. absurd (not_clean e);
        tall = λ e. absurd (not_clean e);
        fault_end = λ fault e other. absurd (other (same fault e));
        fault = λ fault e other. absurd (other (same fault e));
        memory = λ e. prefix_taken (closing_of end) sent
            (subst (λ xs. IsPrefix xs (pipeline (closing_of end))) (sym p.2) p.1);
      }

  pub writer_takes : WriterTakes cut version m n
  writer_takes end sent last h = elim h [
    | inl all ↦ all_sent end sent last all.0 all.1
    | inr part ↦ part_sent end sent last part.0 part.1
  ]
