-- What is answered of a run over an old tree.
use Rattle.std.proofs.Common.{OnOk, ◌≡◌, ◌⊎◌, ◌≤◌, ◌+◌, ◌-◌, ℕ, Bool, true, false, List, [], ◌∷◌, length}
use Rattle.std.proofs.Common.{map, Option, Some, None, Result, Ok, Err, inl, inr, refl, ap, sym}
use Rattle.std.proofs.Common.{subst, ◌∙◌, arith}
use Rattle.std.specs.Prelude.{IfSome}
use Rattle.std.proofs.lemmas.List.{append-nil}
use Rattle.prolly_look_up.specs.Content.{Content, chunk_bytes}
use Rattle.prolly_entry.specs.Cut.{sha512_cut}
use Rattle.prolly_entry.specs.Overlay.{overlay}
use Rattle.prolly_entry.specs.Pair.{Pair}
use Rattle.prolly_entry.specs.Record.{Record}
use Rattle.prolly_entry.specs.declared.version.Version.{Version}
use Rattle.prolly_io.specs.Source.{SourceView}
use Rattle.prolly_io.specs.Sink.{SinkView}
use Rattle.prolly_link.specs.Identity.{LinkId}
use Rattle.prolly_link.specs.Progress.{end_given}
use Rattle.prolly_link.specs.Views.{Batching, Receiving, Whole}
use Rattle.prolly_link.specs.declared.message.End.{End}
use Rattle.prolly_link.specs.declared.fault.RunFault.{RunFault}
use Rattle.prolly_link.specs.declared.fault.RunFault.TheVariants.{Lost, Memory, Write, TooManyFiles}
use Rattle.prolly_merge.specs.Inputs.{fault_in}
use Rattle.prolly_root.specs.ChunkFile.{ChunkFile, IsLawful, chunk_file}
use Rattle.prolly_root.specs.RootFault.{MayFail}
use Rattle.prolly_root.specs.declared.root_fault.RootFault.{RootFault}
use Rattle.prolly_root_diff.specs.FirstFault.{HasAllLeaves, IsLeafFault, LawfulFilesAreWalked}
use Rattle.prolly_root_diff.specs.FirstFault.{TellsLeafFault, TellsLeaves, TreeStep}
use Rattle.prolly_root_diff.specs.lemmas.ReadChunks.{clash_in_fewer}
use Rattle.prolly_root_diff.specs.lemmas.Roots.{lawful_only}
use Rattle.prolly_tree.specs.Chunk.{Chunk, chunks}
use Rattle.prolly_tree.specs.Difference.{puts}
use Rattle.prolly_tree.specs.File.{header, root_reference}
use Rattle.prolly_tree.specs.Merge.{Input, merged_part}
use Rattle.prolly_tree.specs.Passing.{map_input}
use Rattle.prolly_tree.specs.Pipeline.{before_second, pipeline_events}
use Rattle.prolly_stage.specs.Sends.{Sends}
use Rattle.prolly_apply.specs.Applied.{SendsApplied, old_tree_fault}
use Rattle.prolly_apply.specs.Cutting.{AreCut}
use Rattle.prolly_apply.specs.OldLoaded.{IsOldLoaded, load_end}
use Rattle.prolly_apply.specs.Taking.{both, pairs_of}
use Rattle.prolly_build.specs.Applied.{IsApplyOutcome, IsRefusedOver, IsStoppedOver}
use Rattle.prolly_build.specs.Applied.{MayRefuseOld}
use Rattle.prolly_build.specs.Applied.{IsTold, OfMaps}
use Rattle.prolly_build.proofs.GivenBack.{none_at_ok}
use Rattle.prolly_build.specs.BuiltFile.{AreKept, IsBegun, IsStartFault, IsUnmadeOf}
use Rattle.prolly_build.specs.BuiltFile.{IsWriterFault}
use Rattle.prolly_build.specs.Config.{AreLawful, Settings}
use Rattle.prolly_build.specs.End.{IsFinished, IsRefusedAt, IsStoppedAt}
use Rattle.prolly_build.specs.InputFaults.{IsFileFault}
use Rattle.prolly_build.specs.Mergers.{received_input}
use Rattle.prolly_build.specs.OldBase.{AreChangesPaired, IsChangesLink, first_sent, senders_of}
use Rattle.prolly_build.specs.OldEnd.{IsOldEnded, TellsOf}
use Rattle.prolly_build.specs.OldWorkers.{IsAppliedTo, IsOldLoadedFrom}
use Rattle.prolly_build.specs.RecordLinks.{IsFed}
use Rattle.prolly_build.specs.RunResult.{IsHaltFault}
use Rattle.prolly_build.specs.Stages.{HasRun}
use Rattle.prolly_build.specs.WriterState.{frames_of}
use Rattle.prolly_report.specs.declared.apply_fault.ApplyFault.{ApplyFault}
use Rattle.prolly_report.specs.declared.apply_fault.ApplyFault.TheVariants as answers
use Rattle.prolly_report.specs.declared.report.Report.{Report}
use Rattle.prolly_build.specs.declared.end.Halt.{Halt}
use Rattle.prolly_build.specs.declared.end.Halt.TheVariants.{NoThread as NoThread_halt}
use Rattle.prolly_build.proofs.Applying.{IsOldRun, IsRunOver, StopsOver, changes_are, old_run}
use Rattle.prolly_build.proofs.Applying.{RefusesOver, never_refused}
use Rattle.prolly_build.proofs.Counted.{LeftAreBytes}
use Rattle.prolly_build.proofs.Loads.{all_kept}
use Rattle.prolly_build.proofs.Refusals.{some_good}
use Rattle.prolly_build.proofs.Runs.{halted}
use Rattle.prolly_build.proofs.Takings.{lost_is_no_memory}
use Rattle.prolly_build.proofs.Tops.{frames_front}
use Rattle.prolly_build.proofs.WritingSteps.{prefix_on}

same_run : (f g : RunFault) → answers.Run f ≡ answers.Run g → f ≡ g
same_run f g e = cc

old_is_no_run : (f : RootFault) (g : RunFault) → answers.Old f ≡ answers.Run g → ⊥
old_is_no_run f g e = cc

bits_are_no_old : (f : RootFault) → answers.WrongBits ≡ answers.Old f → ⊥
bits_are_no_old f e = cc

same_old : (f g : RootFault) → answers.Old f ≡ answers.Old g → f ≡ g
same_old f g e = cc

bits_are_no_run : (g : RunFault) → answers.WrongBits ≡ answers.Run g → ⊥
bits_are_no_run g e = cc

old_is_no_write : (f : RunFault) → f ≡ old_tree_fault → f ≡ Write → ⊥
old_is_no_write f is e = absurd (apart (sym is ∙ e))
  where
    apart : old_tree_fault ≡ Write → ⊥
    apart e = cc

start_is_no_write : (f : RunFault) → IsStartFault f → f ≡ Write → ⊥
start_is_no_write f start e = subst IsStartFault e start

-- the sender of the changes is that of their link
pub changes_link : (count : ℕ) (outs : List (Batching Record)) (closed : List (Whole Record))
    (input input' : Receiving Record) (idle : Option (Whole Record)) →
    AreChangesPaired count outs input idle → map (λ c. c.link) closed ≡ map (λ o. o.link) outs →
    input'.link ≡ input.link → IsChangesLink (senders_of closed idle) input'.link
changes_link count outs closed input input' None paired fed reads =
    let p = paired.fed refl in
    (p.0, fed ∙ (p.1 ∙ ap (λ (l : LinkId). l ∷ p.0) (sym reads)))
changes_link count outs closed input input' (Some sender) paired fed reads =
    ([], ap (λ (l : LinkId). l ∷ []) (paired.none.1 ∙ sym reads))

-- a sink that was left alone
pub untouched_refused : {S : Type 0} (seen : S → SourceView) → LeftAreBytes seen →
    (goes : ChunkFile → Type 0) (settings : Settings) (root : List ℕ) (before : List S)
    (old : SinkView) →
    OfMaps goes settings root (IsRefusedOver seen settings before old old)
untouched_refused seen bytes goes settings root before old m of =
    let some = some_good seen settings.max_records bytes before in inl (record {
      goods = some.0;
      are_good = some.1;
      pairs = [];
      first = (overlay (puts m ∷ some.0), refl);
      taken = λ keeps. record {
        part = [];
        grown = sym (append-nil old.taken);
        is_prefix = (
          frames_of (header settings.version settings.bits)
              (chunks (sha512_cut settings.bits) settings.version []),
          refl,
        );
      };
    })

-- of fewer files the same is told
loaded_in : (over goes : ChunkFile → Type 0) → ((file : ChunkFile) → goes file → over file) →
    (version : Version) (root : List ℕ) (sent : List (List Pair)) (fault : Option RootFault) →
    IsOldLoaded over version root [] sent fault → IsOldLoaded goes version root [] sent fault
loaded_in over goes goes_is version root sent fault loaded = record {
  leaves = loaded.leaves;
  sent_are = loaded.sent_are;
  are = λ bits m rising lawful named. elim (loaded.are bits m rising lawful named) [
    | inl are ↦ inl are
    | inr clash ↦
        inr (clash_in_fewer goes over goes_is version root (chunk_bytes version bits m) clash)
  ];
}

-- why the old tree was refused
refused_old : (over goes : ChunkFile → Type 0) (version walked : Version) (root : List ℕ) →
    LawfulFilesAreWalked → ((file : ChunkFile) → goes file → over file) → walked ≡ version →
    (fault : Option RootFault) → TellsLeaves over walked root fault →
    IfSome fault (MayRefuseOld goes version root)
refused_old over goes version walked root law goes_is same None first = tt
refused_old over goes version walked root law goes_is same (Some fault) first = record {
  first = told;
  lawful = λ content lawful h named is.
      none_stops content lawful named is (told (chunk_file content) h);
}
  where
    told : TellsLeafFault goes version root fault
    told file h = subst (λ v. MayFail fault ⊎ IsLeafFault v file root fault) same
        (first file (goes_is file h))

    none_stops : (content : Content) → IsLawful content → version ≡ content.version →
        root ≡ root_reference (sha512_cut content.bits) content.version content.pairs →
        MayFail fault ⊎ IsLeafFault version (chunk_file content) root fault → MayFail fault
    none_stops content lawful named is (inl may) = may
    none_stops content lawful named is (inr stops) = lawful_only law lawful named is
        (map (λ c. TreeStep.Reads c) stops.on.read) stops.on.comes (inr stops.stops)

module _ {S : Type 0} (seen : S → SourceView) (goes : ChunkFile → Type 0) (settings : Settings)
    (root : List ℕ) (before after : List S) (old new : SinkView) (untouched : Type 0) where
  abbrev Answers : Result Report ApplyFault → Type 0
  Answers result = IsApplyOutcome seen goes settings root before after old new untouched result

  -- the answer, and that there were not too many files
  pub record IsAnswered (result : Result Report ApplyFault) : Type 0 where
    pub outcome : Answers result
    pub counted : result ≡ Err (answers.Run TooManyFiles) → ⊥

  -- ---- workers that were not all met

  pub halted_outcome : (halt : Halt) (fault : RunFault) → IsHaltFault halt fault →
      (halt ≡ NoThread_halt → untouched) → IsBegun settings old new →
      Answers (Err (answers.Run fault))
  halted_outcome halt fault is none begun =
      let h = halted untouched (AreKept seen before after) halt fault is none in
      record {
        applied = tt;
        kept = tt;
        unmade = λ told e w. absurd (h.no_writer (subst IsWriterFault (sym (same_run fault told e))
            w));
        begun = λ other. begun;
        unstarted = λ told e s. h.unstarted (subst IsStartFault (sym (same_run fault told e)) s);
        left_behind = λ a b. h.left_behind (λ e. a (ap answers.Run e)) (λ e. b (ap answers.Run e));
        stopped = λ file. absurd (h.no_file file);
        of_file = λ e. h.no_file (subst IsFileFault (sym (same_run fault old_tree_fault e)) tt);
        cut_so = λ e. absurd (bits_are_no_run fault (sym e));
        has_all = tt;
        of_old = λ told e. absurd (old_is_no_run told fault (sym e));
        refused = λ e. absurd (h.no_memory (same_run fault Memory e));
        keeps = begun.keeps;
      }

  -- nothing was started
  pub unstarted_outcome : (fault : RunFault) → (IsWriterFault fault → ⊥) →
      (IsFileFault fault → ⊥) → untouched → AreKept seen before after → IsBegun settings old new →
      (fault ≡ Memory →
      OfMaps goes settings root (IsRefusedOver seen settings before old new)) →
      Answers (Err (answers.Run fault))
  unstarted_outcome fault no_writer no_file none kept begun refused = record {
    applied = tt;
    kept = tt;
    unmade = λ told e w. absurd (no_writer (subst IsWriterFault (sym (same_run fault told e)) w));
    begun = λ other. begun;
    unstarted = λ told e s. none;
    left_behind = λ a b. kept;
    stopped = λ file. absurd (no_file file);
    of_file = λ e. no_file (subst IsFileFault (sym (same_run fault old_tree_fault e)) tt);
    cut_so = λ e. absurd (bits_are_no_run fault (sym e));
    has_all = tt;
    of_old = λ told e. absurd (old_is_no_run told fault (sym e));
    refused = λ e. refused (same_run fault Memory e);
    keeps = begun.keeps;
  }

  pub lost_outcome : IsBegun settings old new → Answers (Err (answers.Run Lost))
  lost_outcome begun = record {
    applied = tt;
    kept = tt;
    unmade = λ told e w. absurd (subst IsWriterFault (sym (same_run Lost told e)) w);
    begun = λ other. begun;
    unstarted = λ told e s. absurd (subst IsStartFault (sym (same_run Lost told e)) s);
    left_behind = λ a b. absurd (b refl);
    stopped = λ file. absurd file;
    of_file = λ e. subst IsFileFault (sym (same_run Lost old_tree_fault e)) tt;
    cut_so = λ e. absurd (bits_are_no_run Lost (sym e));
    has_all = tt;
    of_old = λ told e. absurd (old_is_no_run told Lost (sym e));
    refused = λ e. absurd (lost_is_no_memory (same_run Lost Memory e));
    keeps = begun.keeps;
  }

  -- the stop of a run that is named
  stopped_over : (out : Whole Chunk) (fault : RunFault) (m : List Pair) →
      IsStoppedAt settings out old new fault →
      StopsOver seen settings before after root m out.items fault →
      IsStoppedOver seen settings before after old new fault m
  stopped_over out fault m at h = record {
    first = h.first;
    is_first = h.is_first;
    old_fault = h.old_fault;
    all = h.all;
    of_old = h.of_old;
    inputs = h.inputs;
    count_for = h.count_for;
    named = h.named;
    took = at.took (merged_part (map_input h.first h.old_fault ∷ h.inputs)) h.few h.sent;
  }

  -- want of memory
  refused_over : (out : Whole Chunk) (m : List Pair) → IsRefusedAt settings out old new →
      RefusesOver seen settings before after root m out.items →
      IsRefusedOver seen settings before old new m
  refused_over out m at h = record {
    goods = h.goods;
    are_good = h.are_good;
    pairs = h.pairs;
    first = h.first;
    taken = λ keeps. prefix_on (frames_of (header settings.version settings.bits)
        (chunks (sha512_cut settings.bits) settings.version h.pairs)) (at.took keeps)
        (frames_front (header settings.version settings.bits)
        (before_second (settings.stages - 1) out.items)
        (chunks (sha512_cut settings.bits) settings.version h.pairs) h.taken);
  }

  -- ---- a finished run

  module _ (bytes : LeftAreBytes seen) (kept : AreKept seen before after) (out : Whole Chunk)
      (refused : Bool) (old_fault : Option RootFault)
      (never : refused ≡ true → OfMaps goes settings root (λ m. ⊥))
      (first : IfSome old_fault (MayRefuseOld goes settings.version root))
      (over : OfMaps goes settings root (λ m. IsRunOver seen settings before after root m out.items
      out.end)) where
    made_outcome : (report : Report) → IsFinished settings out old new (Ok report) →
        TellsLeaves goes settings.version root None → Answers (Ok report)
    made_outcome report finished has_all = record {
      applied = λ m of. elim (over m of) [
        | inl r ↦ inl (record {
          goods = r.goods;
          read = r.read finished.clean;
          made = finished.made (overlay (puts m ∷ r.goods)) r.run;
        })
        | inr clash ↦ inr clash
      ];
      kept = kept;
      unmade = tt;
      begun = tt;
      unstarted = tt;
      left_behind = tt;
      stopped = tt;
      of_file = tt;
      cut_so = tt;
      has_all = has_all;
      of_old = tt;
      refused = tt;
      keeps = finished.keeps;
    }

    refused_so : (fault : RunFault) → IsFinished settings out old new (Err fault) →
        fault ≡ Memory →
        OfMaps goes settings root (IsRefusedOver seen settings before old new)
    refused_so fault finished memory m of =
        let at = finished.refused memory in
        elim (over m of) [
          | inl r ↦ inl (refused_over out m at (r.refuses bytes at.told))
          | inr clash ↦ inr clash
        ]

    stopped_so : (fault : RunFault) → IsFinished settings out old new (Err fault) →
        IsFileFault fault →
        OfMaps goes settings root (IsStoppedOver seen settings before after old new fault)
    stopped_so fault finished file m of =
        let at = finished.stopped file in
        elim (over m of) [
          | inl r ↦ inl (stopped_over out fault m at (r.stops bytes fault at.told
              (λ e. subst IsFileFault e file)))
          | inr clash ↦ inr clash
        ]

    fault_outcome : (fault : RunFault) → (IsStartFault fault → ⊥) → (fault ≡ old_tree_fault → ⊥) →
        IsFinished settings out old new (Err fault) → Answers (Err (answers.Run fault))
    fault_outcome fault started of_file finished = record {
      applied = tt;
      kept = tt;
      unmade = λ told e w m of. elim (over m of) [
        | inl r ↦
            let u = finished.unmade r.input (subst IsWriterFault (sym (same_run fault told e)) w) in
            inl (record {
              goods = r.goods;
              read = r.read u.clean;
              unmade = subst (λ (f : RunFault). IsUnmadeOf settings (overlay (puts m ∷ r.goods)) old
                  new f) (same_run fault told e)
                  (u.unmade (overlay (puts m ∷ r.goods)) r.run);
            })
        | inr clash ↦ inr clash
      ];
      begun = λ other. finished.begun (λ e. other (ap answers.Run e));
      unstarted = λ told e s. absurd (started (subst IsStartFault (sym (same_run fault told e)) s));
      left_behind = λ a b. kept;
      stopped = stopped_so fault finished;
      of_file = λ e. of_file (same_run fault old_tree_fault e);
      cut_so = λ e. absurd (bits_are_no_run fault (sym e));
      has_all = tt;
      of_old = λ told e. absurd (old_is_no_run told fault (sym e));
      refused = λ e. refused_so fault finished (same_run fault Memory e);
      keeps = finished.keeps;
    }

    run_outcome : (fault told : RunFault) → IsFinished settings out old new (Err fault) →
        IsTold fault refused old_fault (answers.Run told) → IsAnswered (Err (answers.Run told))
    run_outcome fault told finished (inl h) = record {
      outcome = fault_outcome told h.1 h.2
          (subst (λ (f : RunFault). IsFinished settings out old new (Err f)) (sym h.0) finished);
      counted = λ e. h.1 (subst IsStartFault (sym (told_is e)) tt);
    }
      where
        told_is : ◌≡◌ {A = Result Report ApplyFault} (Err (answers.Run told))
            (Err (answers.Run TooManyFiles)) → told ≡ TooManyFiles
        told_is e = cc
    run_outcome fault told finished (inr h) =
        subst (λ (f : RunFault). IsAnswered (Err (answers.Run f))) (sym h.0) (record {
          outcome = lost_outcome (finished.begun (no_write h.1));
          counted = λ e. cc;
        })
      where
        no_write : IsStartFault fault ⊎
            ((fault ≡ old_tree_fault) × (refused ≡ false) × (old_fault ≡ None)) → fault ≡ Write → ⊥
        no_write (inl start) = start_is_no_write fault start
        no_write (inr old) = old_is_no_write fault old.0

    as_old : (fault : RunFault) → fault ≡ old_tree_fault →
        IsFinished settings out old new (Err fault) →
        IsFinished settings out old new (Err old_tree_fault)
    as_old fault is finished =
        subst (λ (f : RunFault). IsFinished settings out old new (Err f)) is finished

    old_outcome : (fault : RunFault) (told : RootFault) → fault ≡ old_tree_fault →
        old_fault ≡ Some told → IsFinished settings out old new (Err fault) →
        IsAnswered (Err (answers.Old told))
    old_outcome fault told is some finished = record {
      outcome = record {
        applied = tt;
        kept = tt;
        unmade = λ t e w. absurd (old_is_no_run told t e);
        begun = λ other. finished.begun (old_is_no_write fault is);
        unstarted = λ t e s. absurd (old_is_no_run told t e);
        left_behind = λ a b. kept;
        stopped = stopped_so old_tree_fault (as_old fault is finished);
        of_file = λ e. absurd (old_is_no_run told old_tree_fault e);
        cut_so = λ e. absurd (bits_are_no_old told (sym e));
        has_all = tt;
        of_old = λ t e. subst (MayRefuseOld goes settings.version root) (same_old told t e)
            (subst (λ (f : Option RootFault). IfSome f (MayRefuseOld goes settings.version root))
            some first);
        refused = λ e. absurd (old_is_no_run told Memory e);
        keeps = finished.keeps;
      };
      counted = λ e. cc;
    }

    bits_outcome : (fault : RunFault) → fault ≡ old_tree_fault → refused ≡ true →
        IsFinished settings out old new (Err fault) → IsAnswered (Err answers.WrongBits)
    bits_outcome fault is wrong finished = record {
      outcome = record {
        applied = tt;
        kept = tt;
        unmade = λ t e w. absurd (bits_are_no_run t e);
        begun = λ other. finished.begun (old_is_no_write fault is);
        unstarted = λ t e s. absurd (bits_are_no_run t e);
        left_behind = λ a b. kept;
        stopped = stopped_so old_tree_fault (as_old fault is finished);
        of_file = λ e. absurd (bits_are_no_run old_tree_fault e);
        cut_so = λ e. never wrong;
        has_all = tt;
        of_old = λ told e. absurd (bits_are_no_old told e);
        refused = λ e. absurd (bits_are_no_run Memory e);
        keeps = finished.keeps;
      };
      counted = λ e. cc;
    }

    told_outcome : (answer : Result Report RunFault) (result : Result Report ApplyFault) →
        IsFinished settings out old new answer → TellsOf refused old_fault answer result →
        OnOk answer (TellsLeaves goes settings.version root None) → IsAnswered result
    told_outcome (Ok report) (Ok told) finished is has_all =
        subst (λ (r : Report). IsAnswered (Ok r)) (sym is)
        (record { outcome = made_outcome report finished has_all; counted = λ e. cc })
    told_outcome (Ok report) (Err told) finished is has_all = absurd is
    told_outcome (Err run) (Ok told) finished is has_all = absurd is
    told_outcome (Err run) (Err (answers.Run told)) finished is has_all =
        run_outcome run told finished is
    told_outcome (Err run) (Err (answers.Old told)) finished is has_all =
        old_outcome run told is.0 is.2 finished
    told_outcome (Err run) (Err answers.WrongBits) finished is has_all =
        bits_outcome run is.0 is.1 finished

  -- ---- the run that was lent its sources

  old_sends : (q : ℕ) → q ≡ settings.bits → (xs ys : List (List Pair)) → xs ≡ ys →
      (e : End) (fault : Option RootFault) → e ≡ load_end fault → (i j : Input RunFault) → i ≡ j →
      (items : List Chunk) (end : End) →
      SendsApplied (sha512_cut q) settings.version xs (both (pairs_of xs) (fault_in e) i) [] items
      end →
      SendsApplied (sha512_cut settings.bits) settings.version ys
      (both (pairs_of ys) (fault_in (load_end fault)) j) [] items end
  old_sends q q_is xs ys xs_are e fault e_is i j i_is items end h =
      let P : ℕ → List (List Pair) → End → Input RunFault → Type 0 =
      λ q xs e i. SendsApplied (sha512_cut q) settings.version xs
      (both (pairs_of xs) (fault_in e) i) [] items end in
      subst (λ q. P q ys (load_end fault) j) q_is
      (subst (λ xs. P q xs (load_end fault) j) xs_are
      (subst (λ e. P q xs e j) e_is
      (subst (λ i. P q xs e i) i_is h)))

  pub lent_outcome : LeftAreBytes seen → AreLawful settings → length before ≤ 15 → (level : ℕ) →
      level + 1 ≡ settings.stages → (lent : List S) → lent ≡ before →
      (Made : Whole Chunk → Type 0) (out : Whole Chunk)
      (run : HasRun Made settings level out.items out.end) (cut : ℕ) → cut ≡ settings.bits →
      {D : Type 0} (goes_over : D → ChunkFile → Type 0) (failures : D → ℕ) (version : Version)
      (source : D) → ((file : ChunkFile) → goes file → goes_over source file) →
      LawfulFilesAreWalked → version ≡ settings.version →
      (leaves_in : Receiving (List Pair)) (changes_in : Receiving Record) (link : LinkId)
      (leaves : Receiving (List Pair)) (changes : Receiving Record) (refused : Bool) →
      IsAppliedTo cut leaves_in changes_in link leaves changes refused run.leaves →
      (passes : LinkId) (source' : D) (fault : Option RootFault) (sent : Whole (List Pair)) →
      IsOldLoadedFrom goes_over failures version root source passes source' fault sent →
      (outs : List (Batching Record)) (closed : List (Whole Record)) →
      IsFed seen settings.max_records lent after outs closed →
      (idle : Option (Whole Record)) (count : ℕ) → length before ≡ count →
      AreChangesPaired count outs changes_in idle →
      (result : Result Report ApplyFault) →
      IsOldEnded settings leaves changes refused fault sent (senders_of closed idle) out old new
      result → IsAnswered result
  lent_outcome bytes lawful few level levels lent same Made out run cut cut_is goes_over failures
      version source goes_is law version_is leaves_in changes_in link leaves changes refused applied passes source'
      fault sent loaded outs closed fed idle count counted paired result (inr lost) =
      subst IsAnswered (sym lost.0)
      (record { outcome = lost_outcome lost.1; counted = λ e. cc })
  lent_outcome bytes lawful few level levels lent same Made out run cut cut_is goes_over failures
      version source goes_is law version_is leaves_in changes_in link leaves changes refused applied passes source'
      fault sent loaded outs closed fed idle count counted paired result (inl met) =
      let below : level ≡ settings.stages - 1 = omega (arith, levels) in
      let leaves_met = met.leaves_met applied.old_ended in
      let changes_met = met.changes_met applied.changes_ended in
      let ended : end_given leaves.progress ≡ load_end fault = ap end_given leaves_met.1 ∙
      loaded.end_is in
      let here = subst (λ (ss : List S). IsFed seen settings.max_records ss after outs closed) same
      fed in
      let fed_changes = changes_are seen settings.max_records before after count outs
      closed changes_in idle counted paired here in
      let is_run : IsOldRun seen settings before after root goes run.leaves = record {
        fault = fault;
        sent = sent.items;
        loaded = loaded_in (goes_over source) goes goes_is settings.version root sent.items fault
            (subst (λ (v : Version). IsOldLoaded (goes_over source) v root [] sent.items fault)
            version_is loaded.loaded);
        changes = first_sent (senders_of closed idle);
        fed = fed_changes;
        refused = refused;
        sends = λ e. old_sends cut cut_is leaves.items sent.items leaves_met.0
            (end_given leaves.progress) fault ended (received_input changes)
            (first_sent (senders_of closed idle)) changes_met run.leaves.items run.leaves.end
            (applied.sends e settings.version);
        wrong = λ e are. applied.wrong e (subst (λ (q : ℕ). AreCut (sha512_cut q) leaves.items)
            (sym cut_is) (subst (λ (ls : List (List Pair)). AreCut (sha512_cut settings.bits) ls)
            (sym leaves_met.0) are));
      } in
      let at_top = run_at level below run is_run in
      told_outcome bytes (all_kept seen settings.max_records 0 before fed_changes.loader_outs after
      fed_changes.files fed_changes.loaded) out refused fault
      (never_refused seen settings before after root goes run.leaves is_run)
      (refused_old (goes_over source) goes settings.version version root law goes_is version_is
      fault loaded.first)
      (λ m of. at_top m of) met.answer result met.finished met.told
      (all_at_ok met.answer (none_at_ok cut leaves_in changes_in link leaves changes refused
      settings Made level out run applied old new fault met.answer met.finished ended))
    where
      all_at_ok : (answer : Result Report RunFault) → OnOk answer (fault ≡ None) →
          OnOk answer (TellsLeaves goes settings.version root None)
      all_at_ok (Err run_fault) none = tt
      all_at_ok (Ok report) none = λ file g.
          subst (λ v. HasAllLeaves v file root) version_is
          (subst (TellsLeaves (goes_over source) version root) none loaded.first file
          (goes_is file g))

      run_at : (l : ℕ) → l ≡ settings.stages - 1 → (r : HasRun Made settings l out.items out.end) →
          IsOldRun seen settings before after root goes r.leaves → OfMaps goes settings root
          (λ m. IsRunOver seen settings before after root m out.items out.end)
      run_at l l_is r o m of =
          let top : HasRun Made settings (settings.stages - 1) out.items out.end = record {
            leaves = r.leaves;
            made = r.made;
            staged = λ pairs end h. subst (λ (n : ℕ). Sends (pipeline_events n
                (sha512_cut settings.bits) settings.version) pairs end [] out.items out.end) l_is
                (r.staged pairs end h);
            end_is = r.end_is;
          } in
          old_run seen settings before after root lawful (omega (arith, few)) Made out.items out.end
          top goes o m of
