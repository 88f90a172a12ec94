-- Which fault the workers of a build name, and what they sent before it.
use Rattle.std.proofs.Common.{◌≡◌, ◌≢◌, ◌≤◌, ◌<◌, ◌+◌, ◌-◌, ◌^◌, ℕ, zero, suc, List, [], ◌∷◌, ◌++◌}
use Rattle.std.proofs.Common.{map, length, Option, Some, None, inl, inr, refl, ap, sym, subst, ◌∙◌}
use Rattle.std.proofs.Common.{arith}
use Rattle.std.specs.List.{AllByRecursion}
use Rattle.prolly_tree.specs.Chunk.{Chunk}
use Rattle.prolly_tree.specs.CutShort.{IsSentOf, AreSentOf}
use Rattle.prolly_entry.specs.Cut.{sha512_cut}
use Rattle.prolly_tree.specs.Events.{Closing, faulty}
use Rattle.prolly_tree.specs.Merge.{Input, Stop, stop, stop_fault, raw_merged_part, merged_part}
use Rattle.prolly_tree.specs.Merge.{joined_input}
use Rattle.prolly_entry.specs.Overlay.{AllRising, pairs_put}
use Rattle.prolly_entry.specs.Pair.{Pair}
use Rattle.prolly_tree.specs.Pipeline.{pipeline_events}
use Rattle.prolly_entry.specs.Record.{Record}
use Rattle.prolly_laws.specs.Merging.{cut_behind_stop, merge_joined, merged_part_rises}
use Rattle.prolly_laws.specs.Merging.{merged_part_is_small}
use Rattle.prolly_io.specs.Source.{SourceView}
use Rattle.prolly_link.specs.declared.message.End.{End}
use Rattle.prolly_link.specs.declared.message.End.TheVariants.{Clean, Fault}
use Rattle.prolly_link.specs.declared.fault.RunFault.{RunFault}
use Rattle.prolly_link.specs.declared.fault.RunFault.TheVariants.{Memory}
use Rattle.prolly_merge.specs.Inputs.{fault_in, end_of, input_of, lists_of, stop_end}
use Rattle.prolly_merge.specs.Merged.{SendsAll}
use Rattle.prolly_stage.specs.Sends.{closing_of, Sends}
use Rattle.prolly_build.specs.RecordLinks.{IsJoint, Joined}
use Rattle.prolly_build.specs.LastMerger.{IsGathered}
use Rattle.prolly_build.specs.Mergers.{MergesAll, sent_input}
use Rattle.prolly_build.specs.Config.{Settings, AreLawful}
use Rattle.prolly_build.proofs.StagingSteps.{HasStaged}
use Rattle.prolly_build.specs.InputFaults.{CountFor}
use Rattle.prolly_build.proofs.Counted.{LeftAreBytes, all_count}
use Rattle.prolly_build.proofs.Loads.{all_rise, all_few}
use Rattle.prolly_build.proofs.Mergings.{Inputs, Rises, rises_all, joined_rises, all_front}
use Rattle.prolly_build.proofs.Mergings.{all_both, fault_of_end_of}

-- ---- one merger of two

-- what it sent of the two as one
sent_of_two : (l r : Input RunFault) (sent : List Record) (end : End) →
    SendsAll [] (raw_merged_part (l ∷ r ∷ [])) (stop_end (l ∷ r ∷ [])) sent end →
    IsSentOf Memory (joined_input l r) (input_of sent end)
sent_of_two l r sent end (inl h) =
    let fault : fault_in end ≡ stop_fault (stop (l ∷ r ∷ [])) =
    ap fault_in h.1 ∙ fault_of_end_of (stop_fault (stop (l ∷ r ∷ []))) in
    inl (ap (λ (rs : List Record). record { records = rs; fault = fault_in end }) h.0
    ∙ ap (λ (f : Option RunFault). record { records = raw_merged_part (l ∷ r ∷ []); fault = f })
    fault)
sent_of_two l r sent end (inr h) =
    inr (ap fault_in h.0, (h.1.1.0, h.1.1.1 ∙ ap (λ (rs : List Record). rs ++ h.1.1.0) (sym h.1.2)))

same_sent : (is : Inputs) → AreSentOf Memory is is
same_sent [] = tt
same_sent (i ∷ is) = (inl refl, same_sent is)

row_sent : (front back : Inputs) (i j : Input RunFault) → IsSentOf Memory i j →
    AreSentOf Memory (front ++ i ∷ back) (front ++ j ∷ back)
row_sent [] back i j h = (h, same_sent back)
row_sent (f ∷ front) back i j h = (inl refl, row_sent front back i j h)

-- the stop of what comes after it is that of what came before it
joint_stops : (before after : Inputs) (j : IsJoint before after) → AllByRecursion Rises before →
    (s : Stop RunFault) → stop after ≡ Some s → s.fault ≢ Memory →
    (stop before ≡ Some s) × (raw_merged_part before ≡ raw_merged_part after)
joint_stops before after j rising s is other =
    let rises_before = subst (λ (is : Inputs). AllByRecursion Rises is) j.forked.now rising in
    let parts = all_front Rises j.forked.front (j.left ∷ j.right ∷ j.forked.back) rises_before in
    let sent = sent_of_two j.left j.right j.sent j.end (j.merges (parts.1.0, (parts.1.1.0, tt))) in
    let joined = joined_input j.left j.right in
    let full = j.forked.front ++ joined ∷ j.forked.back in
    let rises_full = rises_all full (all_both Rises j.forked.front (joined ∷ j.forked.back) parts.0
    (merged_part_rises RunFault (j.left ∷ j.right ∷ []), parts.1.1.1)) in
    let cut = cut_behind_stop RunFault Memory full
    (j.forked.front ++ input_of j.sent j.end ∷ j.forked.back) s rises_full
    (row_sent j.forked.front j.forked.back joined (input_of j.sent j.end) sent)
    (ap (λ (is : Inputs). stop is) (sym j.forked.was) ∙ is) other in
    let law = merge_joined j.forked.front j.forked.back j.left j.right
    (rises_all (j.forked.front ++ j.left ∷ j.right ∷ j.forked.back) rises_before) in (
      ap (λ (is : Inputs). stop is) j.forked.now ∙ law.0 ∙ cut.0,
      ap (λ (is : Inputs). raw_merged_part is) j.forked.now ∙ law.1 ∙ cut.1 ∙
          sym (ap (λ (is : Inputs). raw_merged_part is) j.forked.was),
    )

-- and so down to what the loaders sent
pub joined_stops : (n : ℕ) (files inputs : Inputs) → Joined n files inputs →
    AllByRecursion Rises files → (s : Stop RunFault) → stop inputs ≡ Some s → s.fault ≢ Memory →
    (stop files ≡ Some s) × (raw_merged_part files ≡ raw_merged_part inputs)
joined_stops zero files inputs j rising s is other =
    (ap (λ (is : Inputs). stop is) (sym j) ∙ is, ap (λ (is : Inputs). raw_merged_part is) (sym j))
joined_stops (suc n) files inputs j rising s is other =
    let h = joint_stops j.0 inputs j.2 (joined_rises n files j.0 j.1 rising) s is other in
    let k = joined_stops n files j.0 j.1 rising s h.0 other in
    (k.0, k.1 ∙ h.1)

-- ---- the last merger

-- the stop that an end names
stop_of_end : (fault : RunFault) (o : Option (Stop RunFault)) →
    Fault fault ≡ end_of (stop_fault o) → (s : Stop RunFault) × (o ≡ Some s) × (s.fault ≡ fault)
stop_of_end fault None e = absurd (no_end fault e)
  where
    no_end : (f : RunFault) → Fault f ≡ Clean → ⊥
    no_end f e = cc
stop_of_end fault (Some s) e = (s, refl, same s.fault fault e)
  where
    same : (f g : RunFault) → Fault g ≡ Fault f → f ≡ g
    same f g e = cc

pub same_fault : (f g : RunFault) → Fault f ≡ Fault g → f ≡ g
same_fault f g e = cc

-- where the last merger's end names another fault than want of memory, it is that of its inputs'
-- stop, and the pairs are their merged part
pub merged_stops : (inputs : Inputs) (pairs : List Pair) (fault : RunFault) → fault ≢ Memory →
    SendsAll [] (merged_part inputs) (stop_end inputs) pairs (Fault fault) →
    (s : Stop RunFault) × (stop inputs ≡ Some s) × (s.fault ≡ fault) × (pairs ≡ merged_part inputs)
merged_stops inputs pairs fault other (inl h) = let s = stop_of_end fault (stop inputs) h.1 in
    (s.0, s.1, s.2, h.0)
merged_stops inputs pairs fault other (inr h) = absurd (other (same_fault fault Memory h.0))

-- ---- all workers

module _ {S : Type 0} (seen : S → SourceView) (settings : Settings) (before after : List S)
  where
    pub count_rises : (file : ℕ) (ss ts : List S) (inputs : Inputs) →
        CountFor seen file settings.max_records ss ts inputs → AllRising (lists_of inputs)
    count_rises file [] [] [] h = tt
    count_rises file [] [] (i ∷ is) h = absurd h
    count_rises file [] (t ∷ ts) is h = absurd h
    count_rises file (s ∷ ss) [] is h = absurd h
    count_rises file (s ∷ ss) (t ∷ ts) [] h = absurd h
    count_rises file (s ∷ ss) (t ∷ ts) (i ∷ is) h = (
      elim h.0 [ inl r ↦ r.reading.begins.rising | inr f ↦ f.read.reading.begins.rising ],
      count_rises (file + 1) ss ts is h.1,
    )

    -- what the last stage sent before the fault of a file
    pub record IsStoppedRun (events : List Chunk) (fault : RunFault) : Type 0 where
      pub inputs : List (Input RunFault)
      pub count_for : CountFor seen 0 settings.max_records before after inputs
      pub named : stop_fault (stop inputs) ≡ Some fault
      pub few : length (merged_part inputs) < 2 ^ 64
      pub sent : events ≡ pipeline_events (settings.stages - 1) (sha512_cut settings.bits)
          settings.version faulty (merged_part inputs)

    gathered_stops : LeftAreBytes seen → AreLawful settings → length before ≤ 16 →
        (pairs : List Pair) (end : End) (fault : RunFault) →
        IsGathered seen settings.max_records before after pairs end → end ≡ Fault fault →
        fault ≢ Memory →
        (events : List Chunk) → events ≡ pipeline_events (settings.stages - 1)
        (sha512_cut settings.bits) settings.version faulty pairs → IsStoppedRun events fault
    gathered_stops bytes lawful sixteen pairs end fault h end_is other events sent =
        let files = map sent_input h.files in
        let rises = all_rise seen settings.max_records 0 before h.loader_outs after h.files h.loaded
        in
        let merges : MergesAll h.inputs pairs (Fault fault) =
        subst (λ (e : End). MergesAll h.inputs pairs e) end_is h.merges in
        let last = merged_stops h.inputs pairs fault other
        (merges (rises_all h.inputs (joined_rises h.mergers files h.inputs h.joined rises))) in
        let not_memory : last.0.fault ≢ Memory = λ e. other (sym last.2 ∙ e) in
        let down = joined_stops h.mergers files h.inputs h.joined rises last.0 last.1 not_memory in
        let counts = all_count seen settings.max_records bytes 0 before h.loader_outs after h.files
        h.loaded in
        let true_stop = cut_behind_stop RunFault Memory counts.inputs files last.0
        (count_rises 0 before after counts.inputs counts.count_for) counts.sent_of down.0
        not_memory in
        let part : merged_part counts.inputs ≡ pairs = ap pairs_put (true_stop.1 ∙ down.1) ∙
        sym last.3 in
        let sent_part : merged_part files ≡ pairs = ap pairs_put down.1 ∙ sym last.3 in
        let small = merged_part_is_small RunFault files in
        let all = all_few seen settings.max_records 0 before h.loader_outs after h.files h.loaded
        lawful.max_records.1 in
        let n : length (merged_part counts.inputs) ≡ length (merged_part files) =
        ap (λ (ps : List Pair). length ps) (part ∙ sym sent_part) in
        record {
          inputs = counts.inputs;
          count_for = counts.count_for;
          named = ap stop_fault true_stop.0 ∙ ap Some last.2;
          few = omega (arith, n, small, all, sixteen);
          sent = sent ∙ ap (λ (ps : List Pair). pipeline_events (settings.stages - 1)
              (sha512_cut settings.bits) settings.version faulty ps) (sym part);
        }

    pub source_stops : LeftAreBytes seen → AreLawful settings → length before ≤ 16 →
        (events : List Chunk) (end : End) (fault : RunFault) →
        HasStaged seen settings (settings.stages - 1) before after events end →
        end ≡ Fault fault → fault ≢ Memory → IsStoppedRun events fault
    source_stops bytes lawful sixteen events end fault h end_is other = go h.staged
      where
        stage : Closing → List Pair → List Chunk
        stage = pipeline_events (settings.stages - 1) (sha512_cut settings.bits) settings.version

        go : Sends stage h.pairs h.pairs_end [] events end → IsStoppedRun events fault
        go (inr s) = absurd (other (same_fault fault Memory (sym end_is ∙ s.0)))
        go (inl s) =
            let pairs_end : h.pairs_end ≡ Fault fault = sym s.1 ∙ end_is in
            gathered_stops bytes lawful sixteen h.pairs h.pairs_end fault h.gathered pairs_end
            other events (s.0 ∙ ap (λ (x : End). stage (closing_of x) h.pairs) pairs_end)
