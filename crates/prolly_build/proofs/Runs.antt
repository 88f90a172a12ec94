-- What the workers of a build sent, seen from the sources.
use Rattle.std.proofs.Common.{◌≡◌, ◌≢◌, ◌≤◌, ◌<◌, ◌+◌, ◌-◌, ◌^◌, ℕ, List, [], map, length, inl, inr}
use Rattle.std.proofs.Common.{refl, ap, sym, subst, ◌∙◌, arith}
use Rattle.prolly_tree.specs.Chunk.{Chunk}
use Rattle.prolly_entry.specs.Cut.{sha512_cut}
use Rattle.prolly_tree.specs.Events.{Closing, clean}
use Rattle.prolly_tree.specs.Merge.{merged_part}
use Rattle.prolly_entry.specs.Overlay.{overlay}
use Rattle.prolly_entry.specs.Pair.{Pair}
use Rattle.prolly_tree.specs.Pipeline.{pipeline_events}
use Rattle.prolly_entry.specs.Record.{Record}
use Rattle.prolly_laws.specs.Merging.{overlay_is_small}
use Rattle.prolly_io.specs.Source.{SourceView}
use Rattle.prolly_io.specs.Sink.{SinkView}
use Rattle.prolly_link.specs.Views.{Whole}
use Rattle.prolly_link.specs.declared.message.End.{End}
use Rattle.prolly_link.specs.declared.message.End.TheVariants.{Clean, Fault}
use Rattle.prolly_link.specs.declared.fault.RunFault.{RunFault}
use Rattle.prolly_link.specs.declared.fault.RunFault.TheVariants.{Memory, NoThread, Lost}
use Rattle.prolly_link.specs.declared.fault.RunFault.TheVariants.{TooManyFiles}
use Rattle.prolly_build.specs.declared.end.Halt.{Halt}
use Rattle.prolly_build.specs.declared.end.Halt.TheVariants.{NoThread as NoThread_halt}
use Rattle.prolly_build.specs.declared.end.Halt.TheVariants.{Lost as Lost_halt}
use Rattle.prolly_build.specs.RunResult.{IsHaltFault}
use Rattle.prolly_merge.specs.Inputs.{fault_in, lists_of}
use Rattle.prolly_stage.specs.Sends.{Sends, closing_of}
use Rattle.prolly_build.specs.BuiltFile.{AreRead, AreKept, IsBuilt, IsMadeFile, IsUnmade}
use Rattle.prolly_build.specs.BuiltFile.{IsUnmadeOf}
use Rattle.prolly_build.specs.BuiltFile.{IsRunOf, IsLoadFault, IsInputEnd, IsStartFault}
use Rattle.prolly_build.specs.BuiltFile.{IsWriterFault}
use Rattle.prolly_build.specs.InputFaults.{IsFileFault, IsStopped}
use Rattle.prolly_build.specs.End.{IsStoppedAt}
use Rattle.prolly_report.specs.declared.report.Report.{Report}
use Rattle.prolly_build.specs.LastMerger.{IsGathered}
use Rattle.prolly_build.specs.Mergers.{MergesAll, sent_input}
use Rattle.prolly_build.specs.Config.{Settings, AreLawful}
use Rattle.prolly_build.proofs.StagingSteps.{HasStaged}
use Rattle.prolly_build.proofs.Loads.{all_rise, all_only, all_kept, all_read, all_few}
use Rattle.prolly_build.proofs.Stops.{IsStoppedRun}
use Rattle.prolly_build.proofs.Mergings.{IfFault, clean_pairs, joined_rises, joined_only, rises_all}
use Rattle.prolly_build.proofs.Mergings.{sends_only}

-- an end whose fault is one of the input's
pub input_end : (end : End) → IfFault IsLoadFault (fault_in end) → IsInputEnd end
input_end Clean h = tt
input_end (Fault f) h = h

module _ {S : Type 0} (seen : S → SourceView) (settings : Settings) (before after : List S)
  where
    -- what the last stage sent, by what the loaders sent
    pub record IsSourceRun (events : List Chunk) (end : End) : Type 0 where
      pub goods : List (List Record)
      pub kept : AreKept seen before after
      pub input : IsInputEnd end
      pub read : end ≡ Clean → AreRead seen settings.max_records before after goods
      pub run : IsRunOf settings (overlay goods) events end

    -- the end of the pairs is one that workers may send
    pairs_input : (pairs : List Pair) (end : End) →
        IsGathered seen settings.max_records before after pairs end → IsInputEnd end
    pairs_input pairs end h =
        let rises = all_rise seen settings.max_records 0 before h.loader_outs after h.files h.loaded
        in
        let only = all_only seen settings.max_records 0 before h.loader_outs after h.files h.loaded in
        let inputs_rise = joined_rises h.mergers (map sent_input h.files) h.inputs h.joined rises in
        input_end end
        (sends_only IsLoadFault tt h.inputs (merged_part h.inputs) pairs end
        (h.merges (rises_all h.inputs inputs_rise))
        (joined_only IsLoadFault tt h.mergers (map sent_input h.files) h.inputs h.joined rises only))

    -- the pairs of a clean end are the overlay of the files, and few
    record ArePairs (goods : List (List Record)) (pairs : List Pair) : Type 0 where
      read : AreRead seen settings.max_records before after goods
      pairs_are : pairs ≡ overlay goods
      few : length (overlay goods) < 2 ^ 64

    clean_gathered : AreLawful settings → length before ≤ 16 →
        (pairs : List Pair) (end : End) (h : IsGathered seen settings.max_records before after pairs
        end) →
        end ≡ Clean → ArePairs (lists_of (map sent_input h.files)) pairs
    clean_gathered lawful sixteen pairs end h end_is =
        let rises = all_rise seen settings.max_records 0 before h.loader_outs after h.files h.loaded
        in
        let merges : MergesAll h.inputs pairs Clean =
        subst (λ (e : End). MergesAll h.inputs pairs e) end_is h.merges in
        let p = clean_pairs h.mergers (map sent_input h.files) h.inputs pairs h.joined rises merges in
        let small = overlay_is_small (lists_of (map sent_input h.files)) in
        let all = all_few seen settings.max_records 0 before h.loader_outs after h.files h.loaded
        lawful.max_records.1 in
        record {
          read = all_read seen settings.max_records 0 before h.loader_outs after h.files h.loaded p.0;
          pairs_are = p.1;
          few = omega (arith, small, all, sixteen);
        }

    pub source_run : AreLawful settings → length before ≤ 16 → (events : List Chunk) (end : End) →
        HasStaged seen settings (settings.stages - 1) before after events end →
        IsSourceRun events end
    source_run lawful sixteen events end h = record {
      goods = lists_of (map sent_input h.gathered.files);
      kept = all_kept seen settings.max_records 0 before h.gathered.loader_outs after h.gathered.files
          h.gathered.loaded;
      input = input_of_end h.staged;
      read = λ e. (clean_gathered lawful sixteen h.pairs h.pairs_end h.gathered
          (pairs_clean e h.staged).0).read;
      run = λ e.
          let c = pairs_clean e h.staged in
          let g = clean_gathered lawful sixteen h.pairs h.pairs_end h.gathered c.0 in
          record { few = g.few; sent = c.1 ∙ ap (λ (m : List Pair). stage clean m) g.pairs_are };
    }
      where
        stage : Closing → List Pair → List Chunk
        stage = pipeline_events (settings.stages - 1) (sha512_cut settings.bits) settings.version

        input_of_end : Sends stage h.pairs h.pairs_end [] events end → IsInputEnd end
        input_of_end (inl s) = subst IsInputEnd (sym s.1) (pairs_input h.pairs h.pairs_end h.gathered)
        input_of_end (inr s) = subst IsInputEnd (sym s.0) tt

        pairs_clean : end ≡ Clean → Sends stage h.pairs h.pairs_end [] events end →
            (h.pairs_end ≡ Clean) × (events ≡ stage clean h.pairs)
        pairs_clean e (inl s) =
            let is : h.pairs_end ≡ Clean = sym s.1 ∙ e in
            (is, s.0 ∙ ap (λ (x : End). stage (closing_of x) h.pairs) is)
        pairs_clean e (inr s) = absurd (apart (sym s.0 ∙ e))
          where
            apart : Fault Memory ≡ Clean → ⊥
            apart x = cc

-- what was sent of the sources that were lent, where the level is one less than the number of stages
pub lent_staged : {S : Type 0} {seen : S → SourceView} {settings : Settings} {level : ℕ}
    {before lent after : List S} {events : List Chunk} {end : End} →
    level + 1 ≡ settings.stages → lent ≡ before →
    HasStaged seen settings level lent after events end →
    HasStaged seen settings (settings.stages - 1) before after events end
lent_staged {S} {seen} {settings} {level} {before} {lent} {after} {events} {end} levels same h =
    let below : level ≡ settings.stages - 1 = omega (arith, levels) in
    subst (λ (l : ℕ). HasStaged seen settings l before after events end) below
    (subst (λ (ss : List S). HasStaged seen settings level ss after events end) same h)

-- the file of what the sources hold
pub built : {S : Type 0} {seen : S → SourceView} {settings : Settings} {before after : List S}
    {old new : SinkView} {report : Report} →
    (goods : List (List Record)) → AreRead seen settings.max_records before after goods →
    IsMadeFile settings (overlay goods) old new report →
    IsBuilt seen settings before after old new report
built goods read made = record { goods = goods; read = read; made = made }

-- why there is none
pub not_built : {S : Type 0} {seen : S → SourceView} {settings : Settings} {before after : List S}
    {old new : SinkView} {fault : RunFault} →
    (goods : List (List Record)) → AreRead seen settings.max_records before after goods →
    IsUnmadeOf settings (overlay goods) old new fault →
    IsUnmade seen settings before after old new fault
not_built goods read unmade = record { goods = goods; read = read; unmade = unmade }

-- a fault of a finished build is none that starts nothing, so there were not too many files
pub not_counted : (fault : RunFault) → (IsStartFault fault → ⊥) → fault ≢ TooManyFiles
not_counted fault h e = h (subst IsStartFault (sym e) tt)

-- why the fault of a file is named
pub stopped : {S : Type 0} {seen : S → SourceView} {settings : Settings} {before after : List S}
    {old new : SinkView} {sent : Whole Chunk} (fault : RunFault) → IsFileFault fault →
    (fault ≢ Memory → IsStoppedRun seen settings before after sent.items fault) →
    IsStoppedAt settings sent old new fault →
    IsStopped seen settings before after old new fault
stopped fault file run at =
    let h = run (λ e. subst IsFileFault e file) in
    record {
      inputs = h.inputs;
      count_for = h.count_for;
      named = h.named;
      took = at.took (merged_part h.inputs) h.few h.sent;
    }

-- what is known after a halt: of want of a thread that the sink is as it was; of no halt that the
-- sources are there; and that it is no other fault
pub record IsHalted (untouched kept : Type 0) (fault : RunFault) : Type 0 where
  pub unstarted : IsStartFault fault → untouched
  pub left_behind : fault ≢ NoThread → fault ≢ Lost → kept
  pub no_file : IsFileFault fault → ⊥
  pub no_writer : IsWriterFault fault → ⊥
  pub no_memory : fault ≢ Memory
  pub not_counted : fault ≢ TooManyFiles

pub halted : (untouched kept : Type 0) (halt : Halt) (fault : RunFault) → IsHaltFault halt fault →
    (halt ≡ NoThread_halt → untouched) → IsHalted untouched kept fault
halted untouched kept NoThread_halt fault is h =
    subst (λ f. IsHalted untouched kept f) (sym is) (record {
      unstarted = λ s. h refl;
      left_behind = λ a b. absurd (a refl);
      no_file = λ f. f;
      no_writer = λ w. w;
      no_memory = λ e. cc;
      not_counted = λ e. cc;
    })
halted untouched kept Lost_halt fault is h =
    subst (λ f. IsHalted untouched kept f) (sym is) (record {
      unstarted = λ s. absurd s;
      left_behind = λ a b. absurd (b refl);
      no_file = λ f. f;
      no_writer = λ w. w;
      no_memory = λ e. cc;
      not_counted = λ e. cc;
    })
