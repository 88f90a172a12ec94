-- What the writer behind the stages has made of a map.
use Rattle.std.proofs.Common.{◌≡◌, ◌≤◌, ◌<◌, ◌+◌, ◌-◌, ◌^◌, ℕ, suc, Bool, true, false, List, []}
use Rattle.std.proofs.Common.{◌∷◌, ◌++◌, length, min, ◌⊎◌, inl, inr, refl, ap}
use Rattle.std.proofs.Common.{sym, subst, ◌∙◌, arith, length-append, append_assoc, Result, Ok, Err}
use Rattle.std.proofs.Common.{OnOk, IfOk, IfErr}
use Rattle.std.specs.List.{filter}
use Rattle.std.proofs.Math.Nat.{lt_of_not-le}
use Rattle.std.proofs.lemmas.List.{append-nil}
use Rattle.prolly_tree.specs.Chunk.{Chunk, chunk_of, chunks}
use Rattle.prolly_entry.specs.Cut.{Cut, sha512_cut}
use Rattle.prolly_tree.specs.Events.{clean, has_level}
use Rattle.prolly_tree.specs.File.{file, header, end_record, root_reference}
use Rattle.prolly_entry.specs.Pair.{Pair}
use Rattle.prolly_tree.specs.Pipeline.{pipeline_events, before_second, within_stages, HasSecond}
use Rattle.prolly_entry.specs.Prefix.{IsPrefix}
use Rattle.prolly_entry.specs.Reference.{reference_of}
use Rattle.prolly_tree.specs.Tree.{tree_of, level_count}
use Rattle.prolly_laws.specs.Stages.{composition, enough_stages, within_is_prefix}
use Rattle.prolly_laws.specs.Trees.{pairs_are}
use Rattle.prolly_io.specs.Sink.{SinkView, TakesPrefix}
use Rattle.prolly_link.specs.Views.{Whole}
use Rattle.prolly_link.specs.declared.message.End.{End}
use Rattle.prolly_link.specs.declared.message.End.TheVariants.{Clean, Fault}
use Rattle.prolly_link.specs.declared.fault.RunFault.{RunFault}
use Rattle.prolly_link.specs.declared.fault.RunFault.TheVariants.{Memory, Read, Truncated}
use Rattle.prolly_link.specs.declared.fault.RunFault.TheVariants.{KeyTooLong, ValueTooLong}
use Rattle.prolly_link.specs.declared.fault.RunFault.TheVariants.{OutOfOrder, TooManyRecords}
use Rattle.prolly_link.specs.declared.fault.RunFault.TheVariants.{Write, TooTall, NoThread, Lost}
use Rattle.prolly_link.specs.declared.fault.RunFault.TheVariants.{TooManyFiles}
use Rattle.prolly_report.specs.declared.report.Report.{Report}
use Rattle.prolly_build.specs.BuiltFile.{IsCleanRun, IsMadeFile, IsTooTall, IsCutOff}
use Rattle.prolly_build.specs.BuiltFile.{IsUnmadeOf}
use Rattle.prolly_build.specs.BuiltFile.{tall_file, IsInputEnd, IsLoadFault, IsStartFault}
use Rattle.prolly_build.specs.BuiltFile.{IsWriterFault}
use Rattle.prolly_build.specs.Config.{Settings}
use Rattle.prolly_build.specs.End.{IsUnmadeRun}
use Rattle.prolly_build.specs.WriterState.{IsEndWritten, IsEndFault}
use Rattle.prolly_build.specs.WriterState.{IsTall, IsFailed}
use Rattle.prolly_build.specs.WriterState.{IsUnended, count_told, frames_of}
use Rattle.prolly_build.proofs.Tops.{frames_front}
use Rattle.prolly_build.proofs.WritingSteps.{prefix_on, failed_part}

-- the frames of the first chunks of a map's tree are a prefix of its file
frames_are_first : (settings : Settings) (m : List Pair) (first : List Chunk) →
    IsPrefix first (chunks (sha512_cut settings.bits) settings.version m) →
    IsPrefix (frames_of (header settings.version settings.bits) first)
    (file (sha512_cut settings.bits) settings.version m)
frames_are_first settings m first h =
    let head = header settings.version settings.bits in
    let all = chunks (sha512_cut settings.bits) settings.version m in
    let front = frames_front head first all h in
    let ending = end_record (root_reference (sha512_cut settings.bits) settings.version m)
    (length all) in (
      front.0 ++ ending,
      ap (λ (bytes : List ℕ). bytes ++ ending) front.1 ∙
          append_assoc (frames_of head first) front.0 ending,
    )

pub at_most_one : (b : Bool) → count_told b ≤ 1
at_most_one true = omega arith
at_most_one false = omega arith

one_front : (xs ys : List Chunk) (x y : Chunk) → xs ++ x ∷ [] ≡ ys ++ y ∷ [] → x ≡ y
one_front [] [] x y e = cc
one_front [] (b ∷ bs) x y e = absurd (let n = ap length e in let m = length-append bs (y ∷ []) in
    omega (arith, n, m))
one_front (a ∷ more) [] x y e = absurd (let n = ap length e in
    let m = length-append more (x ∷ []) in omega (arith, n, m))
one_front (a ∷ more) (b ∷ bs) x y e = one_front more bs x y cc

module _ (settings : Settings) (some : 1 ≤ settings.stages) (most : settings.stages ≤ 12)
    (m : List Pair) (events : List Chunk) (run : IsCleanRun settings m events)
  where
    abbrev cut : Cut
    cut = sha512_cut settings.bits

    abbrev level : ℕ
    level = settings.stages - 1

    suc_level : suc level ≡ settings.stages
    suc_level = omega (arith, some)

    few : length m < 2 ^ 64
    few = run.few

    -- the events are the chunks of the tree, the root last, where at most one of them is of the
    -- last stage's level
    pub record IsTree : Type 0 where
      pub stages : level_count cut settings.version m ≤ settings.stages
      pub events_are : events ≡ chunks cut settings.version m
      pub before : List Chunk
      pub root_last : chunks cut settings.version m ≡ before ++ chunk_of settings.version
          (tree_of cut settings.version m).level (tree_of cut settings.version m).tree ∷ []

    low : length (filter (has_level level) events) ≤ 1 →
        level_count cut settings.version m ≤ suc level
    low one =
        let second = (composition cut settings.version m few level).1 in
        let none : HasSecond level (pipeline_events level cut settings.version clean m) → ⊥ =
        λ h. (let k : 2 ≤ length (filter (has_level level) events)
        = subst (λ (es : List Chunk). HasSecond level es) (sym run.sent) h in
        omega (arith, k, one)) in
        at_most (suc level) (level_count cut settings.version m) (λ tall. none (second.1 tall))
      where
        at_most : (a b : ℕ) → (a < b → ⊥) → b ≤ a
        at_most a b h = let k : b < suc a = lt_of_not-le (λ l. h (omega (arith, l))) in
            omega (arith, k)

    pub is_tree : length (filter (has_level level) events) ≤ 1 → IsTree
    is_tree one =
        let enough = enough_stages cut settings.version m few level (low one) in
        record {
          stages = subst (λ (n : ℕ). level_count cut settings.version m ≤ n) suc_level (low one);
          events_are = run.sent ∙ enough.0;
          before = enough.2.0;
          root_last = enough.2.1;
        }

    abbrev file_head : List ℕ
    file_head = header settings.version settings.bits

    abbrev root_chunk : Chunk
    root_chunk = chunk_of settings.version (tree_of cut settings.version m).level
        (tree_of cut settings.version m).tree

    -- the last event is the root
    root_is : (tree : IsTree) (before : List Chunk) (root : Chunk) → events ≡ before ++ root ∷ [] →
        root ≡ root_chunk
    root_is tree before root whole = one_front before tree.before root root_chunk
        (sym whole ∙ (tree.events_are ∙ tree.root_last))

    -- the frames of the events and the end record are the file of the map
    file_is : (tree : IsTree) (before : List Chunk) (root : Chunk) → events ≡ before ++ root ∷ [] →
        frames_of file_head events ++ end_record (reference_of root.bytes) (length events) ≡
        file cut settings.version m
    file_is tree before root whole =
        ap (λ (es : List Chunk). frames_of file_head es ++ end_record (reference_of root.bytes)
        (length es)) tree.events_are
        ∙ ap (λ (c : Chunk). frames_of file_head (chunks cut settings.version m) ++
        end_record (reference_of c.bytes) (length (chunks cut settings.version m)))
        (root_is tree before root whole)

    -- once the end record is written, the file of the map is
    pub file_made : (old new : SinkView) (report : Report) →
        IsEndWritten file_head level events old new report → IsMadeFile settings m old new report
    file_made old new report h =
        let tree = is_tree h.few in
        let root_is = root_is tree h.before h.root h.whole in
        let small = tree.stages in
        record {
          stages = tree.stages;
          taken = λ keeps. h.taken_is keeps ∙ ap (λ (bytes : List ℕ). old.taken ++ bytes)
              (file_is tree h.before h.root h.whole);
          settled = h.settled;
          unfailed = h.unfailed;
          root = h.root_is ∙ ap (λ (c : Chunk). reference_of c.bytes) root_is;
          chunks_are = h.chunks_are ∙ ap (λ (es : List Chunk). length es) tree.events_are;
          pairs = h.pairs_are ∙ (ap (λ (c : Chunk). c.count) root_is ∙
              ap (λ (ps : List Pair). length ps) (pairs_are cut settings.version m));
          levels = h.levels_are ∙ ap (λ (c : Chunk). min 255 (c.level + 1)) root_is ∙
              few_levels small;
        }
      where
        few_levels : level_count cut settings.version m ≤ settings.stages →
            min 255 ((tree_of cut settings.version m).level + 1) ≡ level_count cut settings.version
            m
        few_levels h = omega (arith, h, most)

    -- what was written up to, and without, a second chunk of the last stage's level
    begun_is : frames_of file_head (before_second level events) ≡ tall_file settings m
    begun_is =
        let taken : before_second level events ≡ before_second level (chunks cut settings.version m)
        =
        ap (before_second level) run.sent ∙ (composition cut settings.version m few level).0 in
        ap (frames_of file_head) (taken ∙ ap (λ (n : ℕ). within_stages n
        (chunks cut settings.version m)) suc_level)

    -- is a prefix of the file
    tall_is_prefix : IsPrefix (tall_file settings m) (file cut settings.version m)
    tall_is_prefix =
        let all = chunks cut settings.version m in
        frames_are_first settings m (within_stages settings.stages all)
        (within_is_prefix settings.stages all all ([], sym (append-nil all))).1

    too_tall : (old new : SinkView) → IsTall file_head level events old new →
        IsTooTall settings m old new
    too_tall old new h =
        let second = (composition cut settings.version m few level).1 in
        record {
          levels = subst (λ (n : ℕ). n < level_count cut settings.version m) suc_level
              (second.0 (subst (λ (es : List Chunk). HasSecond level es) run.sent h.second));
          unfailed = h.unfailed;
          taken = λ keeps. h.taken_is keeps ∙ ap (λ (bytes : List ℕ). old.taken ++ bytes) begun_is;
        }

    cut_off : (old new : SinkView) → IsFailed file_head level events old new ⊎
        IsUnended file_head level events old new → IsCutOff settings m old new
    cut_off old new (inl h) = record {
      failed = h.failed;
      taken = λ keeps. prefix_on (file cut settings.version m) (begun keeps) tall_is_prefix;
      tall = λ levels keeps. begun keeps;
    }
      where
        begun : old.is_keeping ≡ true → TakesPrefix old.taken new.taken (tall_file settings m)
        begun keeps = subst (λ (bytes : List ℕ). TakesPrefix old.taken new.taken bytes) begun_is
            (failed_part h keeps)
    cut_off old new (inr h) = record {
      failed = h.failed;
      taken = λ keeps. subst (λ (bytes : List ℕ). TakesPrefix old.taken new.taken bytes)
          (file_is (is_tree h.few) h.before h.root h.whole) (h.taken_is keeps);
      tall = λ levels keeps. absurd (let low = (is_tree h.few).stages in
          omega (arith, low, levels));
    }

    -- why the file of the map was not made
    pub unmade : (old before after : SinkView) (fault : RunFault) →
        IsEndFault file_head level events old before after Clean fault → IsWriterFault fault →
        IsUnmadeOf settings m old after fault
    unmade old before after fault (inl h) writer = subst (λ (f : RunFault). IsUnmadeOf settings m old after
        f) (sym h.0) (cut_off old after h.1)
    unmade old before after fault (inr (inl h)) writer =
        subst (λ (f : RunFault). IsUnmadeOf settings m old after f) (sym h.0)
        (too_tall old after h.1)
    unmade old before after fault (inr (inr h)) writer = absurd (subst IsWriterFault h.0 writer)

-- a fault of an input is neither the writer's nor one that comes before all
input_alone : (f : RunFault) → IsLoadFault f → (IsWriterFault f → ⊥) × (IsStartFault f → ⊥)
input_alone Memory i = (λ w. w, λ s. s)
input_alone (Read n) i = (λ w. w, λ s. s)
input_alone (Truncated n place) i = (λ w. w, λ s. s)
input_alone (KeyTooLong n place) i = (λ w. w, λ s. s)
input_alone (ValueTooLong n place) i = (λ w. w, λ s. s)
input_alone (OutOfOrder n place) i = (λ w. w, λ s. s)
input_alone (TooManyRecords n) i = (λ w. w, λ s. s)
input_alone Lost i = (λ w. w, λ s. s)
input_alone Write i = absurd i
input_alone TooTall i = absurd i
input_alone NoThread i = absurd i
input_alone TooManyFiles i = absurd i

-- the same at any end that workers may send, which a fault of the writer rules out but for a clean
-- one
pub unmade_at : (settings : Settings) (some : 1 ≤ settings.stages) (most : settings.stages ≤ 12)
    (sent : Whole Chunk) → IsInputEnd sent.end → (old before after : SinkView) (fault : RunFault) →
    IsEndFault (header settings.version settings.bits) (settings.stages - 1) sent.items old before
    after sent.end fault → IsWriterFault fault → IsUnmadeRun settings sent old after fault
unmade_at settings some most sent input old before after fault h writer = record {
  clean = clean_end sent.end input h;
  unmade = λ m run.
      let clean = clean_end sent.end input h in
      unmade settings some most m sent.items (run clean) old before after fault
      (subst (λ (e : End). IsEndFault (header settings.version settings.bits) (settings.stages - 1)
      sent.items old before after e fault) clean h) writer;
}
  where
    clean_end : (end : End) → IsInputEnd end →
        IsEndFault (header settings.version settings.bits) (settings.stages - 1) sent.items old
        before after end fault → end ≡ Clean
    clean_end Clean i e = refl
    clean_end (Fault f) i e = absurd ((input_alone f i).0 (subst IsWriterFault e.0 writer))

-- the fault of a finished build is that of the end that the workers sent, or one of the writer
pub no_start_fault : (head : List ℕ) (last_level : ℕ) (events : List Chunk)
    (old before after : SinkView) (end : End) (fault : RunFault) → IsInputEnd end →
    IsEndFault head last_level events old before after end fault → IsStartFault fault → ⊥
no_start_fault head last_level events old before after (Fault f) fault input h start =
    (input_alone f input).1 (subst IsStartFault h.0 start)
no_start_fault head last_level events old before after Clean fault input (inl h) start =
    subst IsStartFault h.0 start
no_start_fault head last_level events old before after Clean fault input (inr (inl h)) start =
    subst IsStartFault h.0 start
no_start_fault head last_level events old before after Clean fault input (inr (inr h)) start =
    subst IsStartFault h.0 start

module _ {A E : Type 0} where
  pub if_ok : (r : Result A E) (P P' : A → Type 0) (Q : Type 0) → (Q → (x : A) → P x → P' x) →
      OnOk r Q → IfOk r P → IfOk r P'
  if_ok (Ok x) P P' Q f q p = f q x p
  if_ok (Err e) P P' Q f q p = tt

  pub if_ok_any : (r : Result A E) {Q : Type 0} → Q → OnOk r Q
  if_ok_any (Ok x) q = q
  if_ok_any (Err e) q = tt

  pub at_ok : (r : Result A E) (P : A → Type 0) (x : A) → r ≡ Ok x → IfOk r P → P x
  at_ok r P x is h = subst (λ s. IfOk s P) is h

  pub at_err : (r : Result A E) (P : E → Type 0) (e : E) → r ≡ Err e → IfErr r P → P e
  at_err r P e is h = subst (λ s. IfErr s P) is h
