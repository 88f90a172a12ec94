-- What a run over an old tree has made, seen from a map of its root.
use Rattle.std.proofs.Common.{◌≡◌, ◌≢◌, ◌⊎◌, ◌≤◌, ◌<◌, ◌-◌, ◌*◌, ◌^◌, ℕ, zero, suc, Bool, true}
use Rattle.std.proofs.Common.{false, List, [], ◌∷◌, ◌++◌, length, map, Option, Some, None}
use Rattle.std.proofs.Common.{inl, inr, refl, ap, sym, subst, ◌∙◌, arith}
use Rattle.std.specs.List.{AllByRecursion, flat_map}
use Rattle.std.specs.Prelude.{IfSome}
use Rattle.std.proofs.lemmas.List.{append-nil, length-append, length-map, map-append}
use Rattle.prolly_entry.specs.Cut.{Cut, sha512_cut}
use Rattle.prolly_entry.specs.Keys.{Rising}
use Rattle.prolly_entry.specs.Overlay as overlays
use Rattle.prolly_entry.specs.Overlay.{AllRising, overlay, pairs_put, raw_overlay}
use Rattle.prolly_entry.specs.lemmas.Lists.{prefix_trans}
use Rattle.prolly_entry.specs.Pair.{Pair}
use Rattle.prolly_entry.specs.Prefix.{IsPrefix}
use Rattle.prolly_entry.specs.Record.{Record, keys_of}
use Rattle.prolly_io.specs.Source.{SourceView}
use Rattle.prolly_laws.specs.Merging.{cut_behind_stop, merged_part_is_small, overlay_is_small}
use Rattle.prolly_link.specs.Views.{Batching, Whole}
use Rattle.prolly_link.specs.declared.message.End.{End}
use Rattle.prolly_link.specs.declared.message.End.TheVariants.{Clean, Fault}
use Rattle.prolly_link.specs.declared.fault.RunFault.{RunFault}
use Rattle.prolly_link.specs.declared.fault.RunFault.TheVariants.{Memory}
use Rattle.prolly_merge.specs.Inputs.{fault_in, lists_of, stop_end}
use Rattle.prolly_root.specs.ChunkFile.{ChunkFile}
use Rattle.prolly_root.specs.declared.root_fault.RootFault.{RootFault}
use Rattle.prolly_root.specs.declared.root_fault.RootFault.TheVariants as roots
use Rattle.prolly_root_diff.specs.Leaves.{full_leaves}
use Rattle.prolly_laws.specs.Stages.{composition, within_is_prefix}
use Rattle.prolly_stage.specs.lemmas.Takings.{writer_takes}
use Rattle.prolly_stage.specs.Sends.{Sends, closing_of}
use Rattle.prolly_tree.specs.Chunk.{Chunk, chunks}
use Rattle.prolly_tree.specs.Difference.{IsMap, puts}
use Rattle.prolly_tree.specs.CutShort.{AreFrontsOf, AreSentOf, IsFrontOf}
use Rattle.prolly_tree.specs.Events.{Closing, clean, faulty}
use Rattle.prolly_tree.specs.Merge.{Input, Stop, stop, stop_fault, raw_merged_part, merged_part}
use Rattle.prolly_tree.specs.Passing.{map_input}
use Rattle.prolly_tree.specs.Pipeline.{before_second, pipeline_events}
use Rattle.prolly_apply.specs.Applied.{SendsApplied}
use Rattle.prolly_apply.specs.Cutting.{AreCut}
use Rattle.prolly_apply.specs.OldLoaded.{AreLeavesOf, IsOldLoaded, load_end}
use Rattle.prolly_apply.specs.Taking.{both, pairs_of}
use Rattle.prolly_apply.specs.lemmas.OldLeaves.{first_are_cut, first_pairs, leaves_are_cut}
use Rattle.prolly_apply.specs.lemmas.OldLeaves.{pairs_are, rest_are_cut}
use Rattle.prolly_build.specs.Applied.{IsMapOf, IsOldFault, OfMaps}
use Rattle.prolly_build.specs.BuiltFile.{AreRead, IsInputEnd, IsLoadFault, IsRunOf}
use Rattle.prolly_build.specs.Config.{AreLawful, Settings}
use Rattle.prolly_build.specs.InputFaults.{CountFor}
use Rattle.prolly_build.specs.Mergers.{MergesAll, sent_input}
use Rattle.prolly_build.specs.OldBase.{AreChangesPaired, first_sent, senders_of}
use Rattle.prolly_build.specs.RecordLinks.{IsFed, IsJoint, Joined}
use Rattle.prolly_build.specs.Refusals.{AreGood}
use Rattle.prolly_build.specs.RunResult.{AreLoaded}
use Rattle.prolly_build.specs.Stages.{HasRun}
use Rattle.prolly_build.proofs.Counted.{LeftAreBytes, all_count}
use Rattle.prolly_build.proofs.ForkSteps.{same_length}
use Rattle.prolly_build.proofs.Loads.{all_few, all_only, all_read, all_rise}
use Rattle.prolly_build.proofs.Mergings.{EndsClean, FaultsOnly, IfFault, Inputs, Rises, clean_pairs}
use Rattle.prolly_build.proofs.Mergings.{joined_only, joined_rises, rising_front}
use Rattle.prolly_build.proofs.Mergings.{sends_only}
use Rattle.prolly_build.proofs.Refusals.{AreSent, all_fronts, good_few, joined_sent}
use Rattle.prolly_build.proofs.Refusals.{first_pairs as merged_first}
use Rattle.prolly_build.proofs.Runs.{input_end}
use Rattle.prolly_build.proofs.Stops.{count_rises, joined_stops, merged_stops, same_fault}

-- ---- one input more in front

joint_behind : (x : Input RunFault) (before after : Inputs) → IsJoint before after →
    IsJoint (x ∷ before) (x ∷ after)
joint_behind x before after j = record {
  at = suc j.at;
  left = j.left;
  right = j.right;
  sent = j.sent;
  end = j.end;
  forked = record {
    front = x ∷ j.forked.front;
    back = j.forked.back;
    place = ap suc j.forked.place;
    was = ap (λ (is : Inputs). x ∷ is) j.forked.was;
    now = ap (λ (is : Inputs). x ∷ is) j.forked.now;
  };
  merges = j.merges;
}

joined_behind : (x : Input RunFault) (n : ℕ) (files inputs : Inputs) → Joined n files inputs →
    Joined n (x ∷ files) (x ∷ inputs)
joined_behind x zero files inputs j = ap (λ (is : Inputs). x ∷ is) j
joined_behind x (suc n) files inputs j =
    (x ∷ j.0, joined_behind x n files j.0 j.1, joint_behind x j.0 inputs j.2)

-- ---- the changes

-- an input that gives nothing
abbrev pub nothing : Input RunFault
nothing = record { records = []; fault = None }

-- the inputs are those of the files, or there are no files, and one gives nothing
abbrev pub AreFilesOr : List (Whole Record) → Inputs → Type 0
AreFilesOr files inputs = (inputs ≡ map sent_input files)
    ⊎ ((files ≡ []) × (inputs ≡ nothing ∷ []))

module _ {S : Type 0} (seen : S → SourceView) (limit : ℕ) (before after : List S) where
  -- what the loaders sent, and mergers of two made of it
  pub record AreChanges (changes : Input RunFault) : Type 0 where
    pub loader_outs : List (Batching Record)
    pub files : List (Whole Record)
    pub loaded : AreLoaded seen limit 0 before loader_outs after files
    pub inputs : Inputs
    pub are : AreFilesOr files inputs
    pub mergers : ℕ
    pub joined : Joined mergers inputs (changes ∷ [])

  none_loaded : (ss : List S) (os : List (Batching Record)) (ts : List S)
      (cs : List (Whole Record)) → length ss ≡ 0 → AreLoaded seen limit 0 ss os ts cs → cs ≡ []
  none_loaded [] [] [] [] e h = refl
  none_loaded [] [] [] (c ∷ cs) e h = absurd h
  none_loaded [] [] (t ∷ ts) cs e h = absurd h
  none_loaded [] (o ∷ os) ts cs e h = absurd h
  none_loaded (s ∷ ss) os ts cs e h = absurd (omega (arith, e))

  one_sender : (closed : List (Whole Record)) (outs : List (Batching Record)) (files : Inputs)
      (n : ℕ) → Joined n files (map sent_input closed) → length closed ≡ length outs →
      length outs ≤ 1 → 1 ≤ length closed → Joined n files (first_sent closed ∷ [])
  one_sender [] outs files n j same few some = absurd (omega (arith, some))
  one_sender (c ∷ []) outs files n j same few some = j
  one_sender (c ∷ d ∷ closed) outs files n j same few some = absurd (omega (arith, same, few))

  pub changes_are : (count : ℕ) (outs : List (Batching Record)) (closed : List (Whole Record))
      (input : _) (idle : Option (Whole Record)) → length before ≡ count →
      AreChangesPaired count outs input idle → IsFed seen limit before after outs closed →
      AreChanges (first_sent (senders_of closed idle))
  changes_are count outs closed input None counted paired fed =
      let fed_by = paired.fed refl in
      let same = same_length (λ (c : Whole Record). c.link) (λ (o : Batching Record). o.link) closed
      outs fed.links in
      let links : length (map (λ (o : Batching Record). o.link) outs) ≡ suc (length fed_by.0) =
      ap length fed_by.1 in
      let mapped = length-map outs (λ (o : Batching Record). o.link) in
      record {
        loader_outs = fed.loader_outs;
        files = fed.files;
        loaded = fed.loaded;
        inputs = map sent_input fed.files;
        are = inl refl;
        mergers = fed.mergers;
        joined = one_sender closed outs (map sent_input fed.files) fed.mergers fed.joined same
            paired.few (omega (arith, same, links, mapped));
      }
  changes_are count outs closed input (Some sender) counted paired fed =
      let none = paired.none in
      let given : sent_input sender ≡ nothing = gives_nothing sender none.2 none.3 in
      record {
        loader_outs = fed.loader_outs;
        files = fed.files;
        loaded = fed.loaded;
        inputs = nothing ∷ [];
        are = inr (
          none_loaded before fed.loader_outs after fed.files (counted ∙ none.0) fed.loaded,
          refl,
        );
        mergers = zero;
        joined = ap (λ (i : Input RunFault). i ∷ []) given;
      }
    where
      gives_nothing : (sender : Whole Record) → sender.items ≡ [] → sender.end ≡ Clean →
          sent_input sender ≡ nothing
      gives_nothing sender items end =
          ap (λ (rs : List Record). record { records = rs; fault = fault_in sender.end }) items
          ∙ ap (λ (e : End). record { records = []; fault = fault_in e }) end

  -- ---- what is known of them

  of_files : (P : Input RunFault → Type 0) (files : List (Whole Record)) (inputs : Inputs) →
      AreFilesOr files inputs → P nothing → AllByRecursion P (map sent_input files) →
      AllByRecursion P inputs
  of_files P files inputs (inl is) none all =
      subst (λ (is : Inputs). AllByRecursion P is) (sym is) all
  of_files P files inputs (inr h) none all =
      subst (λ (is : Inputs). AllByRecursion P is) (sym h.1) (none, tt)

  to_files : (files : List (Whole Record)) (inputs : Inputs) →
      AreFilesOr files inputs → AllByRecursion EndsClean inputs →
      AllByRecursion EndsClean (map sent_input files)
  to_files files inputs (inl is) all = subst (λ (is : Inputs). AllByRecursion EndsClean is) is all
  to_files files inputs (inr h) all =
      subst (λ (fs : List (Whole Record)). AllByRecursion EndsClean (map sent_input fs)) (sym h.0)
      tt

  inputs_few : (files : List (Whole Record)) (inputs : Inputs) → AreFilesOr files inputs →
      length (flat_map (λ records. records) (lists_of (map sent_input files))) ≤
      length before * 16777216 →
      length (flat_map (λ records. records) (lists_of inputs)) ≤ length before * 16777216
  inputs_few files inputs (inl is) few = subst (λ (is : Inputs).
      length (flat_map (λ records. records) (lists_of is)) ≤ length before * 16777216) (sym is) few
  inputs_few files inputs (inr h) few = subst (λ (is : Inputs).
      length (flat_map (λ records. records) (lists_of is)) ≤ length before * 16777216) (sym h.1)
      (omega arith)

  -- an input that gives nothing adds nothing to an overlay
  same_overlay : (old : List Record) (files : List (Whole Record)) (inputs : Inputs) →
      AreFilesOr files inputs →
      overlay (old ∷ lists_of inputs) ≡ overlay (old ∷ lists_of (map sent_input files))
  unfolding overlays.raw_overlay
  same_overlay old files inputs (inl is) =
      ap (λ (is : Inputs). overlay (old ∷ lists_of is)) is
  same_overlay old files inputs (inr h) =
      ap (λ (is : Inputs). overlay (old ∷ lists_of is)) h.1 ∙ (nothing_more old ∙
      ap (λ (fs : List (Whole Record)). overlay (old ∷ lists_of (map sent_input fs))) (sym h.0))
    where
      nothing_more : (old : List Record) → overlay (old ∷ [] ∷ []) ≡ overlay (old ∷ [])
      nothing_more old = refl

-- ---- the old tree

-- the pairs that a map begins with are a map
rises_in_front : (first m : List Pair) → IsPrefix first m → IsMap m → Rising (keys_of (puts first))
rises_in_front first m front rising =
    rising_front (puts first) (puts front.0)
    (subst (λ (rs : List Record). Rising (keys_of rs))
    (ap puts front.1 ∙ map-append {B = Record} (λ (p : Pair). record {
      key = p.key;
      value = Some p.value;
    }) first front.0) (subst Rising (sym (keys_of_puts m)) rising))
  where
    keys_of_puts : (m : List Pair) → keys_of (puts m) ≡ map (λ p. p.key) m
    keys_of_puts [] = refl
    keys_of_puts (p ∷ m) = ap (λ (ks : List (List ℕ)). p.key ∷ ks) (keys_of_puts m)

front_leaves : (cut : Cut) (m : List Pair) (fault : Option RootFault) (leaves : List (List Pair)) →
    AreLeavesOf cut m fault leaves → IsPrefix leaves (full_leaves cut m)
front_leaves cut m None leaves h = ([], sym (append-nil leaves ∙ h))
front_leaves cut m (Some fault) leaves h = h

-- a clean end tells no fault of the old tree
pub no_fault : (fault : Option RootFault) → fault_in (load_end fault) ≡ None → fault ≡ None
no_fault None e = refl
no_fault (Some roots.Memory) e = absurd cc
no_fault (Some roots.Read) e = absurd cc
no_fault (Some roots.Header) e = absurd cc
no_fault (Some roots.Version) e = absurd cc
no_fault (Some roots.Truncated) e = absurd cc
no_fault (Some (roots.Frame chunk)) e = absurd cc
no_fault (Some roots.Trailing) e = absurd cc
no_fault (Some roots.Missing) e = absurd cc
no_fault (Some (roots.Reference chunk)) e = absurd cc
no_fault (Some (roots.Chunk chunk)) e = absurd cc
no_fault (Some (roots.KeysOutOfOrder chunk)) e = absurd cc
no_fault (Some (roots.Level chunk)) e = absurd cc

-- at a clean end they are all
all_pairs : (cut : Cut) (m : List Pair) (fault : Option RootFault) (leaves : List (List Pair)) →
    AreLeavesOf cut m fault leaves → fault_in (load_end fault) ≡ None → pairs_of leaves ≡ m
all_pairs cut m fault leaves h e =
    ap pairs_of (subst (λ (f : Option RootFault). AreLeavesOf cut m f leaves) (no_fault fault e) h)
    ∙ pairs_are cut m

-- the fault of the old tree is one of an input
old_only : (fault : Option RootFault) → IfFault IsLoadFault (fault_in (load_end fault))
old_only None = tt
old_only (Some roots.Memory) = tt
old_only (Some roots.Read) = tt
old_only (Some roots.Header) = tt
old_only (Some roots.Version) = tt
old_only (Some roots.Truncated) = tt
old_only (Some (roots.Frame chunk)) = tt
old_only (Some roots.Trailing) = tt
old_only (Some roots.Missing) = tt
old_only (Some (roots.Reference chunk)) = tt
old_only (Some (roots.Chunk chunk)) = tt
old_only (Some (roots.KeysOutOfOrder chunk)) = tt
old_only (Some (roots.Level chunk)) = tt

-- as the loader sends it
sent_fault : (fault : Option RootFault) → IfSome (fault_in (load_end fault)) IsOldFault
sent_fault None = tt
sent_fault (Some roots.Memory) = inl refl
sent_fault (Some roots.Read) = inr refl
sent_fault (Some roots.Header) = inr refl
sent_fault (Some roots.Version) = inr refl
sent_fault (Some roots.Truncated) = inr refl
sent_fault (Some (roots.Frame chunk)) = inr refl
sent_fault (Some roots.Trailing) = inr refl
sent_fault (Some roots.Missing) = inr refl
sent_fault (Some (roots.Reference chunk)) = inr refl
sent_fault (Some (roots.Chunk chunk)) = inr refl
sent_fault (Some (roots.KeysOutOfOrder chunk)) = inr refl
sent_fault (Some (roots.Level chunk)) = inr refl

-- ---- the run

module _ {S : Type 0} (seen : S → SourceView) (settings : Settings) (before after : List S)
    (root : List ℕ) where
  abbrev cut : Cut
  cut = sha512_cut settings.bits

  -- what the stage of the leaves had, and what it sent
  pub record IsOldRun (goes_over : ChunkFile → Type 0) (leaves : Whole Chunk) : Type 0 where
    pub fault : Option RootFault
    pub sent : List (List Pair)
    pub loaded : IsOldLoaded goes_over settings.version root [] sent fault
    pub changes : Input RunFault
    pub fed : AreChanges seen settings.max_records before after changes
    pub refused : Bool
    pub wrong : refused ≡ true → AreCut cut sent → ⊥
    pub sends : refused ≡ false → SendsApplied cut settings.version sent
        (both (pairs_of sent) (fault_in (load_end fault)) changes) [] leaves.items leaves.end

  -- what was sent before the fault of an input
  pub record StopsOver (m : List Pair) (events : List Chunk) (fault : RunFault) : Type 0 where
    pub first : List Pair
    pub is_first : IsPrefix first m
    pub old_fault : Option RunFault
    pub all : old_fault ≡ None → first ≡ m
    pub of_old : IfSome old_fault IsOldFault
    pub inputs : Inputs
    pub count_for : CountFor seen 0 settings.max_records before after inputs
    pub named : stop_fault (stop (map_input first old_fault ∷ inputs)) ≡ Some fault
    pub few : length (merged_part (map_input first old_fault ∷ inputs)) < 2 ^ 64
    pub sent : events ≡ pipeline_events (settings.stages - 1) cut settings.version faulty
        (merged_part (map_input first old_fault ∷ inputs))

  -- what was sent where a worker was refused memory
  pub record RefusesOver (m : List Pair) (events : List Chunk) : Type 0 where
    pub goods : List (List Record)
    pub are_good : AreGood seen settings.max_records before goods
    pub pairs : List Pair
    pub first : IsPrefix pairs (overlay (puts m ∷ goods))
    pub taken : IsPrefix (before_second (settings.stages - 1) events)
        (chunks cut settings.version pairs)

  -- what that is for a map of the root
  pub record IsRunOver (m : List Pair) (events : List Chunk) (end : End) : Type 0 where
    pub goods : List (List Record)
    pub input : IsInputEnd end
    pub read : end ≡ Clean → AreRead seen settings.max_records before after goods
    pub run : IsRunOf settings (overlay (puts m ∷ goods)) events end
    pub stops : LeftAreBytes seen → (fault : RunFault) →
        end ≡ Fault fault → fault ≢ Memory → StopsOver m events fault
    pub refuses : LeftAreBytes seen → end ≡ Fault Memory →
        RefusesOver m events

  module _ (lawful : AreLawful settings) (sixteen : length before ≤ 16) (m : List Pair)
      (of : IsMapOf settings root m) (Made : Whole Chunk → Type 0) (events : List Chunk) (end : End)
      (run : HasRun Made settings (settings.stages - 1) events end)
      (goes_over : ChunkFile → Type 0) (old : IsOldRun goes_over run.leaves)
      (are : AreLeavesOf cut m old.fault old.sent) where
    abbrev old_input : Input RunFault
    old_input = map_input (pairs_of old.sent) (fault_in (load_end old.fault))

    front : IsPrefix old.sent (full_leaves cut m)
    front = front_leaves cut m old.fault old.sent are

    are_cut : AreCut cut old.sent
    are_cut = first_are_cut cut old.sent (full_leaves cut m) front (leaves_are_cut cut m)

    not_refused : (b : Bool) → old.refused ≡ b → old.refused ≡ false
    not_refused false e = e
    not_refused true e = absurd (old.wrong e are_cut)

    old_rises : Rises old_input
    old_rises = rises_in_front (pairs_of old.sent) m
        (subst (λ (ps : List Pair). IsPrefix (pairs_of old.sent) ps) (pairs_are cut m)
        (first_pairs old.sent (full_leaves cut m) front)) of.rising

    file_inputs : AllByRecursion Rises old.fed.inputs
    file_inputs = of_files seen settings.max_records before after Rises old.fed.files old.fed.inputs
        old.fed.are tt
        (all_rise seen settings.max_records 0 before old.fed.loader_outs after old.fed.files
        old.fed.loaded)

    changes_rise : AllByRecursion Rises (old.changes ∷ [])
    changes_rise = joined_rises old.fed.mergers old.fed.inputs (old.changes ∷ []) old.fed.joined
        file_inputs

    abbrev two : Inputs
    two = old_input ∷ old.changes ∷ []

    staged : Sends (pipeline_events (settings.stages - 1) cut settings.version) (merged_part two)
        (stop_end two) [] events end
    staged = run.staged (merged_part two) (stop_end two)
        (old.sends (not_refused old.refused refl) (old_rises, (changes_rise.0, tt))
        (rest_are_cut cut old.sent are_cut))

    faults : AllByRecursion (FaultsOnly IsLoadFault) two
    faults =
        let files = of_files seen settings.max_records before after (FaultsOnly IsLoadFault)
        old.fed.files old.fed.inputs old.fed.are tt
        (all_only seen settings.max_records 0 before old.fed.loader_outs after old.fed.files
        old.fed.loaded) in (
          old_only old.fault,
          joined_only IsLoadFault tt old.fed.mergers old.fed.inputs (old.changes ∷ [])
              old.fed.joined file_inputs files,
        )

    two_end : IsInputEnd (stop_end two)
    two_end = input_end (stop_end two)
        (sends_only IsLoadFault tt two (merged_part two) (merged_part two) (stop_end two)
        (inl (refl, refl)) faults)

    ends_so : Sends (pipeline_events (settings.stages - 1) cut settings.version) (merged_part two)
        (stop_end two) [] events end → IsInputEnd end
    ends_so (inl h) = subst IsInputEnd (sym h.1) two_end
    ends_so (inr h) = subst IsInputEnd (sym h.0) tt

    abbrev stage : Closing → List Pair → List Chunk
    stage = pipeline_events (settings.stages - 1) cut settings.version

    clean_staged : end ≡ Clean → Sends stage (merged_part two) (stop_end two) [] events end →
        (stop_end two ≡ Clean) × (events ≡ stage clean (merged_part two))
    clean_staged e (inl h) =
        let is : stop_end two ≡ Clean = sym h.1 ∙ e in
        (is, h.0 ∙ ap (λ (x : End). stage (closing_of x) (merged_part two)) is)
    clean_staged e (inr h) = absurd (apart (sym h.0 ∙ e))
      where
        apart : Fault Memory ≡ Clean → ⊥
        apart x = cc

    abbrev goods : List (List Record)
    goods = lists_of (map sent_input old.fed.files)

    record IsClean : Type 0 where
      sent : events ≡ stage clean (overlay (puts m ∷ goods))
      read : AreRead seen settings.max_records before after goods

    clean_run : end ≡ Clean → IsClean
    clean_run e =
        let c = clean_staged e staged in
        let merges : MergesAll two (merged_part two) Clean = λ rising. inl (refl, sym c.0) in
        let k = clean_pairs old.fed.mergers (old_input ∷ old.fed.inputs) two (merged_part two)
        (joined_behind old_input old.fed.mergers old.fed.inputs (old.changes ∷ []) old.fed.joined)
        (old_rises, file_inputs) merges in
        let pairs = all_pairs cut m old.fault old.sent are k.0.0 in
        let whole : merged_part two ≡ overlay (puts m ∷ goods) =
        k.1 ∙ (same_overlay seen settings.max_records before after (puts (pairs_of old.sent))
        old.fed.files old.fed.inputs old.fed.are ∙
        ap (λ (ps : List Pair). overlay (puts ps ∷ goods)) pairs) in
        record {
          sent = c.1 ∙ ap (λ (ps : List Pair). stage clean ps) whole;
          read = all_read seen settings.max_records 0 before old.fed.loader_outs after old.fed.files
              old.fed.loaded (to_files seen settings.max_records before after old.fed.files
              old.fed.inputs old.fed.are k.0.1);
        }

    few : length (overlay (puts m ∷ goods)) < 2 ^ 64
    few =
        let small = overlay_is_small (puts m ∷ goods) in
        let all = all_few seen settings.max_records 0 before old.fed.loader_outs after old.fed.files
        old.fed.loaded lawful.max_records.1 in
        let sum = length-append (puts m) (flat_map (λ (records : List Record). records) goods) in
        let put = length-map {B = Record} m (λ (p : Pair). record { key = p.key; value = Some p.value }) in
        let most = of.few in
        omega (arith, small, all, sum, put, most, sixteen)

    first_of_m : IsPrefix (pairs_of old.sent) m
    first_of_m = subst (λ (ps : List Pair). IsPrefix (pairs_of old.sent) ps) (pairs_are cut m)
        (first_pairs old.sent (full_leaves cut m) front)

    -- what is named and merged of the files is so of what they count for
    record IsTrue (counted : Inputs) (s : Stop RunFault) : Type 0 where
      stopped : stop (old_input ∷ counted) ≡ Some s
      merged : raw_merged_part (old_input ∷ counted) ≡ raw_merged_part two

    without_nothing : (counted : Inputs) (s : Stop RunFault) → counted ≡ [] →
        (stop (old_input ∷ nothing ∷ []) ≡ Some s) × (raw_merged_part (old_input ∷ nothing ∷ []) ≡
        raw_merged_part two) → IsTrue counted s
    unfolding overlays.raw_overlay
    without_nothing counted s none h =
        subst (λ (is : Inputs). IsTrue is s) (sym none)
        (record { stopped = h.0; merged = h.1 })

    true_stop : LeftAreBytes seen → (s : Stop RunFault) →
        stop two ≡ Some s → s.fault ≢ Memory → (files : List (Whole Record)) → (inputs : Inputs) →
        AreFilesOr files inputs → AreLoaded seen settings.max_records 0 before old.fed.loader_outs
        after files →
        (stop (old_input ∷ inputs) ≡ Some s) × (raw_merged_part (old_input ∷ inputs) ≡
        raw_merged_part two) →
        (counted : Inputs) × CountFor seen 0 settings.max_records before after counted ×
        IsTrue counted s
    true_stop bytes s is other files inputs (inl are) loaded down =
        let counts = all_count seen settings.max_records bytes 0 before old.fed.loader_outs after
        files loaded in
        let down_files = subst (λ (is : Inputs). (stop (old_input ∷ is) ≡ Some s) ×
        (raw_merged_part (old_input ∷ is) ≡ raw_merged_part two)) are down in
        let cut_true = cut_behind_stop RunFault Memory (old_input ∷ counts.inputs)
        (old_input ∷ map sent_input files) s (
          old_rises,
          count_rises seen settings before after 0 before after counts.inputs
              counts.count_for,
        )
        (inl refl, counts.sent_of) down_files.0 other in (
          counts.inputs,
          counts.count_for,
          record { stopped = cut_true.0; merged = cut_true.1 ∙ down_files.1 },
        )
    true_stop bytes s is other files inputs (inr h) loaded down =
        let counts = all_count seen settings.max_records bytes 0 before old.fed.loader_outs after
        files loaded in
        let none : counts.inputs ≡ [] = no_counts counts.inputs files h.0 counts.sent_of in (
          counts.inputs,
          counts.count_for,
          without_nothing counts.inputs s none
              (subst (λ (is : Inputs). (stop (old_input ∷ is) ≡ Some s) ×
              (raw_merged_part (old_input ∷ is) ≡ raw_merged_part two)) h.1 down),
        )
      where
        no_counts : (counted : Inputs) (files : List (Whole Record)) → files ≡ [] →
            AreSentOf Memory counted (map sent_input files) → counted ≡ []
        no_counts [] files none h = refl
        no_counts (i ∷ is) [] none h = absurd h
        no_counts (i ∷ is) (c ∷ cs) none h = cc

    stops_over : LeftAreBytes seen → (fault : RunFault) →
        end ≡ Fault fault → fault ≢ Memory → StopsOver m events fault
    stops_over bytes fault end_is other = go staged
      where
        fault_is : Fault fault ≡ Fault Memory → ⊥
        fault_is e = other (same_fault fault Memory e)

        few_parts : (counted : Inputs) →
            merged_part (old_input ∷ counted) ≡ merged_part (old_input ∷ old.fed.inputs) →
            length (merged_part (old_input ∷ counted)) < 2 ^ 64
        few_parts counted part =
            let same : length (merged_part (old_input ∷ counted)) ≡
            length (merged_part (old_input ∷ old.fed.inputs)) =
            ap (λ (ps : List Pair). length ps) part in
            let small = merged_part_is_small RunFault (old_input ∷ old.fed.inputs) in
            let sum = length-append (puts (pairs_of old.sent))
            (flat_map (λ (records : List Record). records) (lists_of old.fed.inputs)) in
            let put = length-map {B = Record} (pairs_of old.sent)
            (λ (p : Pair). record { key = p.key; value = Some p.value }) in
            let more : length m ≡ length (pairs_of old.sent ++ first_of_m.0) =
            ap (λ (ps : List Pair). length ps) first_of_m.1 in
            let both_long = length-append (pairs_of old.sent) first_of_m.0 in
            let all = inputs_few seen settings.max_records before after old.fed.files old.fed.inputs
            old.fed.are (all_few seen settings.max_records 0 before old.fed.loader_outs after
            old.fed.files old.fed.loaded lawful.max_records.1) in
            let most = of.few in
            omega (arith, same, small, sum, put, more, both_long, all, most, sixteen)

        go : Sends stage (merged_part two) (stop_end two) [] events end → StopsOver m events fault
        go (inr h) = absurd (fault_is (sym end_is ∙ h.0))
        go (inl h) =
            let named : stop_end two ≡ Fault fault = sym h.1 ∙ end_is in
            let last = merged_stops two (merged_part two) fault other (inl (refl, sym named)) in
            let not_memory : last.0.fault ≢ Memory = λ e. other (sym last.2 ∙ e) in
            let down = joined_stops old.fed.mergers (old_input ∷ old.fed.inputs) two
            (joined_behind old_input old.fed.mergers old.fed.inputs (old.changes ∷ [])
            old.fed.joined) (old_rises, file_inputs) last.0 last.1 not_memory in
            let counts = true_stop bytes last.0 last.1 not_memory old.fed.files
            old.fed.inputs old.fed.are old.fed.loaded down in
            let part : merged_part (old_input ∷ counts.0) ≡ merged_part two =
            ap pairs_put counts.2.merged in
            record {
              first = pairs_of old.sent;
              is_first = first_of_m;
              old_fault = fault_in (load_end old.fault);
              all = all_pairs cut m old.fault old.sent are;
              of_old = sent_fault old.fault;
              inputs = counts.0;
              count_for = counts.1;
              named = ap stop_fault counts.2.stopped ∙ ap Some last.2;
              few = few_parts counts.0 (ap pairs_put (counts.2.merged ∙ sym down.1));
              sent = h.0 ∙ (ap (λ (x : End). stage (closing_of x) (merged_part two)) named ∙
                  ap (λ (ps : List Pair). stage faulty ps) (sym part));
            }

    -- ---- want of memory

    old_front : IsFrontOf (puts m) old_input
    old_front = record {
      first = (
        puts first_of_m.0,
        ap puts first_of_m.1 ∙
            map-append {B = Record} (λ (p : Pair). record { key = p.key; value = Some p.value })
            (pairs_of old.sent) first_of_m.0,
      );
      all = λ e. ap puts (all_pairs cut m old.fault old.sent are e);
    }

    map_rises : Rising (keys_of (puts m))
    map_rises = rises_in_front m m ([], sym (append-nil m)) of.rising

    -- what was sent of the map and of good records
    front_sent : (goods : List (List Record)) (files : List (Whole Record)) (inputs : Inputs) →
        AreFilesOr files inputs → AreFrontsOf goods (map sent_input files) → AllRising goods →
        AreSent (old_input ∷ inputs) (raw_overlay (puts m ∷ goods))
    unfolding overlays.raw_overlay
    front_sent goods files inputs (inl is) fronts rising = record {
      lists = puts m ∷ goods;
      rising = (map_rises, rising);
      fronts = (old_front, subst (λ (is : Inputs). AreFrontsOf goods is) (sym is) fronts);
      overlay_is = refl;
    }
    front_sent [] files inputs (inr h) fronts rising = record {
      lists = puts m ∷ [] ∷ [];
      rising = (map_rises, (tt, tt));
      fronts = (
        old_front,
        subst (λ (is : Inputs). AreFrontsOf ([] ∷ []) is) (sym h.1)
            (record { first = ([], refl); all = λ e. refl }, tt),
      );
      overlay_is = refl;
    }
    front_sent (g ∷ goods) files inputs (inr h) fronts rising =
        absurd (subst (λ (fs : List (Whole Record)). AreFrontsOf (g ∷ goods) (map sent_input fs))
        h.0 fronts)

    refuses_over : LeftAreBytes seen → end ≡ Fault Memory →
        RefusesOver m events
    refuses_over bytes end_is =
        let sent = all_fronts seen settings.max_records bytes 0 before old.fed.loader_outs after
        old.fed.files old.fed.loaded in
        let files = front_sent sent.goods old.fed.files old.fed.inputs old.fed.are sent.fronts
        sent.rising in
        let both_sent = joined_sent old.fed.mergers (old_input ∷ old.fed.inputs) two
        (joined_behind old_input old.fed.mergers old.fed.inputs (old.changes ∷ []) old.fed.joined)
        (raw_overlay (puts m ∷ sent.goods)) files in
        let first = merged_first two (merged_part two) (stop_end two)
        (raw_overlay (puts m ∷ sent.goods)) both_sent (λ rising. inl (refl, refl)) in
        let small = overlay_is_small (puts m ∷ sent.goods) in
        let all = good_few seen settings.max_records before sent.goods sent.are_good
        lawful.max_records.1 in
        let sum = length-append (puts m) (flat_map (λ (records : List Record). records) sent.goods)
        in
        let put = length-map {B = Record} m (λ (p : Pair). record {
          key = p.key;
          value = Some p.value;
        }) in
        let more : length (overlay (puts m ∷ sent.goods)) ≡ length (merged_part two ++ first.0) =
        ap (λ (ps : List Pair). length ps) first.1 in
        let parts = length-append (merged_part two) first.0 in
        let most = of.few in
        let few_sent : length (merged_part two) < 2 ^ 64 =
        omega (arith, small, all, sum, put, more, parts, most, sixteen) in
        let takes = writer_takes cut settings.version (merged_part two) (settings.stages - 1)
        (composition cut settings.version (merged_part two) few_sent (settings.stages - 1))
        (stop_end two) events end staged in
        let tree = chunks cut settings.version (merged_part two) in
        record {
          goods = sent.goods;
          are_good = sent.are_good;
          pairs = merged_part two;
          first = first;
          taken = prefix_trans (before_second (settings.stages - 1) events)
              (before_second (settings.stages - 1) tree) tree (takes.memory end_is)
              (within_is_prefix (suc (settings.stages - 1)) tree tree
              ([], sym (append-nil tree))).1;
        }

    pub run_over : IsRunOver m events end
    run_over = record {
      goods = goods;
      input = ends_so staged;
      read = λ e. (clean_run e).read;
      run = λ e. record { few = few; sent = (clean_run e).sent };
      stops = stops_over;
      refuses = refuses_over;
    }

  -- the old tree is refused of no map of the root
  pub never_refused : (goes_over : ChunkFile → Type 0) (leaves : Whole Chunk)
      (old : IsOldRun goes_over leaves) → old.refused ≡ true →
      OfMaps goes_over settings root (λ m. ⊥)
  never_refused goes_over leaves old refused m of =
      elim (old.loaded.are settings.bits m of.rising of.lawful of.named) [
        | inl are ↦ inl (old.wrong refused (subst (λ (ls : List (List Pair)). AreCut cut ls)
            (sym old.loaded.sent_are)
            (first_are_cut cut old.loaded.leaves (full_leaves cut m)
            (front_leaves cut m old.fault old.loaded.leaves are) (leaves_are_cut cut m))))
        | inr clash ↦ inr clash
      ]

  -- so it is of any map of the root, or there is a clash
  pub old_run : AreLawful settings → length before ≤ 16 → (Made : Whole Chunk → Type 0)
      (events : List Chunk) (end : End)
      (run : HasRun Made settings (settings.stages - 1) events end)
      (goes_over : ChunkFile → Type 0) → IsOldRun goes_over run.leaves →
      OfMaps goes_over settings root (λ m. IsRunOver m events end)
  old_run lawful sixteen Made events end run goes_over old m of =
      elim (old.loaded.are settings.bits m of.rising of.lawful of.named) [
        | inl are ↦ inl (run_over lawful sixteen m of Made events end run goes_over old
            (subst (λ (ls : List (List Pair)). AreLeavesOf cut m old.fault ls)
            (sym old.loaded.sent_are) are))
        | inr clash ↦ inr clash
      ]
