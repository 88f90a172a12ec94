-- Writing a difference by the roots, change by change.
use Rattle.std.proofs.Common.{◌≡◌, ◌≢◌, ◌⊎◌, inl, inr, ℕ, List, [], ◌∷◌, ◌++◌, map, Bool, true, false}
use Rattle.std.proofs.Common.{Option}
use Rattle.std.proofs.Common.{Some, None, Result, Ok, Err, refl, sym, ap, ◌∙◌, subst, append-nil}
use Rattle.std.proofs.lemmas.Bool.{false≢true}
use Rattle.std.specs.List.{AllByRecursion}
use Rattle.std.proofs.lemmas.List.{map-append}
use Rattle.std.proofs.lemmas.List.Concat.{flat_map-append}
use Rattle.prolly_look_up.specs.Content.{chunk_bytes}
use Rattle.prolly_chunk.specs.Missing.{AreSo, lacking}
use Rattle.prolly_entry.specs.Pair.{Pair}
use Rattle.prolly_entry.specs.Record.{Record}
use Rattle.prolly_entry.specs.declared.version.Version.{Version}
use Rattle.prolly_entry.specs.lemmas.Lists.{all_back, all_front}
use Rattle.prolly_io.specs.Failures.{after_failure}
use Rattle.prolly_io.specs.Sink.{IsSettled, SinkView}
use Rattle.prolly_root.specs.RootFault.{TellsFailure}
use Rattle.prolly_root.specs.declared.root_fault.RootFault.{RootFault}
use Rattle.prolly_root.specs.declared.root_fault.RootFault.TheVariants as roots
use Rattle.prolly_root.specs.ChunkFile.{ChunkFile}
use Rattle.prolly_root_diff.specs.Notes.{AreNoted, TellsMissing}
use Rattle.prolly_root_diff.specs.DueTrees.{IsAtRoot}
use Rattle.prolly_root_diff.specs.FileWalks.{HasStill, IsWalked, StopsInNew, StopsInOld, TellsNew}
use Rattle.prolly_root_diff.specs.FileWalks.{TellsOld, TellsWalk, WalksOn}
use Rattle.prolly_root_diff.specs.FirstFault.{LawfulFilesAreWalked, tree_at}
use Rattle.prolly_root_diff.specs.Sides.{left_of}
use Rattle.prolly_root_diff.specs.Walks.{AreChangesOf, Clashing, IsAtEnd, IsBegun, Leads, Move}
use Rattle.prolly_root_diff.specs.Walks.{Walk, WalksAreRight, at_roots, before_of, changes_on}
use Rattle.prolly_root_diff.specs.Walks.{lefts_of, read_on, record_of}
use Rattle.prolly_root_diff.specs.declared.notes.Notes.{Notes}
use Rattle.prolly_root_diff.specs.declared.change.RootChange.{RootChange}
use Rattle.prolly_root_diff.specs.declared.fault.RootDiffFault.{RootDiffFault}
use Rattle.prolly_root_diff.specs.declared.fault.RootDiffFault.TheVariants as walks
use Rattle.prolly_root_diff.specs.declared.side.Side.{Side}
use Rattle.prolly_root_diff.specs.lemmas.WalkParts.{has_still, still_on, stops_in_new, stops_in_old}
use Rattle.prolly_root_diff.specs.lemmas.WalkParts.{walks_none, walks_on}
use Rattle.prolly_root_diff.specs.lemmas.Roots.{is_walked, new_lawful, new_told, old_lawful, old_told}
use Rattle.prolly_text.specs.RecordForms.{spelled, written_records}
use Rattle.prolly_text.specs.declared.lines.form.RecordForm.{RecordForm}
use Rattle.prolly_tree.specs.LookUp.{find}
use Rattle.prolly_answer.specs.Counts.{AreCounts, are_some, counts_line}
use Rattle.prolly_answer.specs.Diff.{AreStopped, AreWritten}
use Rattle.prolly_answer.specs.Outputs.{IsSettledAs, TookAll, TookSoFar, TookUntil}
use Rattle.prolly_answer.specs.RootDiffs.{Counts, GaveFirst, IsEndedDiff, IsStatLine}
use Rattle.prolly_answer.specs.RootDiffs.{IsStoppedDiff, MayStopInNew, MayStopInOld}
use Rattle.prolly_answer.specs.RootDiffs.{TellsDiffReads, TellsNumbers, WroteIn, fault_of, records_on}
use Rattle.std.specs.Prelude.{IfErr, IfOk}
use Rattle.prolly_answer.specs.declared.answers.root_diff.Told.{Told}
use Rattle.prolly_answer.specs.declared.answers.diff.ChangeCounts.{ChangeCounts}
use Rattle.prolly_fault.specs.OutputFault.{told}
use Rattle.prolly_fault.specs.declared.output_fault.OutputFault.{OutputFault}
use Rattle.prolly_fault.specs.declared.output_fault.OutputFault.TheVariants as outputs
use Rattle.prolly_fault.specs.declared.fault.Fault.{Fault}
use Rattle.prolly_fault.specs.declared.fault.Fault.TheVariants as faults
use Rattle.prolly_answer.proofs.Counting.{line_is}
use Rattle.prolly_answer.proofs.Writing.{flushed, took_more, took_none, took_until, unflushed}

-- ---- the trees

-- A walk came from the two roots to here, and each source goes over what it went over; no call of
-- one failed. It gave these changes.
pub record IsWalking {S T R U : Type 0} (goes_over : S → ChunkFile → Type 0) (failures : S → ℕ)
    (stands : ChunkFile → T → ℕ → ℕ → Type 0) (goes_over' : R → ChunkFile → Type 0)
    (failures' : R → ℕ) (stands' : ChunkFile → U → ℕ → ℕ → Type 0) (version : Version)
    (root root' : List ℕ) (start source : S) (start' source' : R) (at : Side T) (at' : Side U)
    (notes : Option Notes) : Type 0 where
  pub before : Side T
  pub after : Side U
  pub at_root : IsAtRoot root before
  pub at_root' : IsAtRoot root' after
  pub lefts : (record { before = left_of before; after = left_of after }) ≡ at_roots root root'
  pub still : HasStill goes_over failures start source
  pub still' : HasStill goes_over' failures' start' source'
  pub first : Option Notes
  pub none_noted : AreNoted [] first
  pub changes : List RootChange
  pub on : WalksOn goes_over stands goes_over' stands' version start start' before at after at'
      changes first notes

module _ {S T R U : Type 0} (goes_over : S → ChunkFile → Type 0) (failures : S → ℕ)
    (stands : ChunkFile → T → ℕ → ℕ → Type 0) (goes_over' : R → ChunkFile → Type 0)
    (failures' : R → ℕ) (stands' : ChunkFile → U → ℕ → ℕ → Type 0) (version : Version)
    (root root' : List ℕ) (start : S) (start' : R) where
  abbrev Walking : S → R → Side T → Side U → Option Notes → Type 0
  Walking source source' at at' notes = IsWalking goes_over failures stands goes_over' failures'
      stands' version root root' start source start' source' at at' notes

  abbrev pub walks_first : (walk : Walk T U) → IsBegun version root root' walk → AreNoted [] walk.notes →
      Walking start start' walk.before walk.after walk.notes
  walks_first walk begun none = record {
    before = walk.before;
    after = walk.after;
    at_root = begun.before;
    at_root' = begun.after;
    lefts = begun.lefts;
    still = has_still goes_over failures start;
    still' = has_still goes_over' failures' start';
    first = walk.notes;
    none_noted = none;
    changes = [];
    on = walks_none goes_over stands goes_over' stands' version start start' walk.before walk.after
        walk.notes;
  }

  module _ (source : S) (source' : R) (at : Side T) (at' : Side U) (notes : Option Notes)
      (w : Walking source source' at at' notes) where
    -- it went its way from the roots
    pub went : IsWalked (goes_over start) (goes_over' start') version root root' w.on.way
        (record { before = left_of at; after = left_of at' })
    went = is_walked goes_over stands goes_over' stands' version start start' root root' w.before
        at w.after at' w.at_root w.at_root' w.lefts w.changes w.first notes w.on

    -- what holds of the changes that it gave holds of those of its way
    pub gave : (So : List Record → Type 0) → So (map record_of w.changes) → GaveFirst
        (goes_over start) (goes_over' start') version root root' (λ way. So (records_on way))
    gave So so = record {
      way = w.on.way;
      rest = record { before = left_of at; after = left_of at' };
      walked = went;
      so = subst (λ cs. So (map record_of cs)) (sym w.on.gives) so;
    }

    -- what it noted is of this way
    pub noted_so : AreNoted w.on.way notes
    noted_so = w.on.noted [] w.none_noted

  module _ (walked : Version) (same : walked ≡ version) (mid new : S) (mid' new' : R)
      (at later : Side T) (at' later' : Side U) (notes later_notes : Option Notes)
      (w : Walking mid mid' at at' notes) where
    abbrev WayTold : Result (Option RootChange) RootDiffFault → Type 0
    WayTold result = TellsWalk goes_over stands goes_over' stands' walked mid mid' at later at' later'
        notes later_notes result

    -- it gave this change, or none
    module _ (change : Option RootChange)
        (old : TellsOld {C = Option RootChange} goes_over failures mid new (Ok change))
        (new_told : TellsNew {C = Option RootChange} goes_over' failures' mid' new' (Ok change)) where
      abbrev further : (given : List RootChange) → WalksOn goes_over stands goes_over' stands' walked mid
          mid' at later at' later' given notes later_notes →
          Walking new new' later later' later_notes
      further given on = record {
        before = w.before;
        after = w.after;
        at_root = w.at_root;
        at_root' = w.at_root';
        lefts = w.lefts;
        still = still_on goes_over failures start mid new w.still
            (old.goes_still, old.failures_are);
        still' = still_on goes_over' failures' start' mid' new' w.still'
            (new_told.goes_still, new_told.failures_are);
        first = w.first;
        none_noted = w.none_noted;
        changes = w.changes ++ given;
        on = walks_on goes_over stands goes_over' stands' version start mid start' mid'
            w.still.goes_still w.still'.goes_still w.before at w.after at' w.changes w.first notes
            w.on later later' given later_notes (subst (λ v. WalksOn goes_over stands goes_over'
            stands' v mid mid' at later at' later' given notes later_notes) same on);
      }

      abbrev pub walks_further : (one : RootChange) → change ≡ Some one → WayTold (Ok change) →
          Walking new new' later later' later_notes
      walks_further one is told =
          further (one ∷ []) (subst (λ given. WayTold (Ok given)) is told)

      abbrev pub walks_to_end : change ≡ None → WayTold (Ok change) →
          Walking new new' later later' later_notes
      walks_to_end none told =
          further [] (subst (λ given. WayTold (Ok given)) none told).0

    pub refuses_old : LawfulFilesAreWalked → (fault : RootDiffFault) → WayTold (Err fault) →
        (f : RootFault) → fault ≡ walks.Old f →
        MayStopInOld (goes_over start) (goes_over' start') version root root' f
    refuses_old law fault told f is =
        let stops = stops_in_old goes_over stands goes_over' stands' version start mid start' mid'
        w.still.goes_still w.still'.goes_still w.before at w.after at' w.changes w.first notes w.on
        later later' f
        (subst (λ v. StopsInOld goes_over stands goes_over' stands' v mid mid' at later at' later' f)
        same (subst (λ x. WayTold (Err x)) is told)) in (
          old_lawful goes_over stands goes_over' stands' version start start' root root' w.before later
              w.after later' w.at_root w.at_root' w.lefts f law stops,
          old_told goes_over stands goes_over' stands' version start start' root root' w.before later
              w.after later' w.at_root w.at_root' w.lefts f stops,
        )

    pub refuses_new : LawfulFilesAreWalked → (fault : RootDiffFault) → WayTold (Err fault) →
        (f : RootFault) → fault ≡ walks.New f →
        MayStopInNew (goes_over start) (goes_over' start') version root root' f
    refuses_new law fault told f is =
        let stops = stops_in_new goes_over stands goes_over' stands' version start mid start' mid'
        w.still.goes_still w.still'.goes_still w.before at w.after at' w.changes w.first notes w.on
        later later' f
        (subst (λ v. StopsInNew goes_over stands goes_over' stands' v mid mid' at later at' later' f)
        same (subst (λ x. WayTold (Err x)) is told)) in (
          new_lawful goes_over stands goes_over' stands' version start start' root root' w.before later
              w.after later' w.at_root w.at_root' w.lefts f law stops,
          new_told goes_over stands goes_over' stands' version start start' root root' w.before later
              w.after later' w.at_root w.at_root' w.lefts f stops,
        )

-- ---- the sink

-- The records were written so far, where a form is given.
abbrev pub WroteSoFar : {W : Type 0} → (W → SinkView) → Option RecordForm → W → W → List Record →
    Type 0
WroteSoFar seen form sink mid = AreWritten form (λ bytes. TookSoFar seen bytes sink mid) (mid ≡ sink)

-- They were written, and the sink was flushed.
abbrev pub WroteAll : {W : Type 0} → (W → SinkView) → Option RecordForm → W → W → List Record →
    Type 0
WroteAll seen form sink mid = AreWritten form (λ bytes. TookAll seen bytes sink mid) (mid ≡ sink)

-- A part of them was, until writing failed.
abbrev pub WrotePart : {W : Type 0} → (W → SinkView) → Option RecordForm → W → W → List Record →
    Type 0
WrotePart seen form sink mid =
    AreStopped form (λ fault bytes. TookUntil seen fault bytes sink mid) outputs.Write

one_more : (form : RecordForm) (done : List Record) (own : Record) →
    written_records form (done ++ own ∷ []) ≡ written_records form done ++ spelled form own
one_more form done own = flat_map-append (spelled form) done (own ∷ []) ∙
    ap (λ bytes. written_records form done ++ bytes) (append-nil (spelled form own))

module _ {W : Type 0} (seen : W → SinkView) where
  pub wrote_none : (form : Option RecordForm) (sink : W) → WroteSoFar seen form sink sink []
  wrote_none None sink = refl
  wrote_none (Some form) sink = took_none seen sink

  wrote_more : (form : Option RecordForm) (sink mid after : W) (done : List Record)
      (own : Record) (x : Unit {0}) → WroteSoFar seen form sink mid done →
      WroteIn seen form own mid after (Ok x) → WroteSoFar seen form sink after (done ++ own ∷ [])
  wrote_more None sink mid after done own x so_far wrote = wrote ∙ so_far
  wrote_more (Some form) sink mid after done own x so_far wrote =
      subst (λ bytes. TookSoFar seen bytes sink after) (sym (one_more form done own))
      (took_more seen (written_records form done) sink mid so_far x (spelled form own) after wrote)

  wrote_until : (form : Option RecordForm) (sink mid after : W) (done : List Record)
      (own : Record) → WroteSoFar seen form sink mid done →
      WroteIn seen form own mid after (Err outputs.Write) →
      WrotePart seen form sink after (done ++ own ∷ [])
  wrote_until None sink mid after done own so_far wrote = absurd wrote
  wrote_until (Some form) sink mid after done own so_far wrote =
      took_until seen (written_records form done) sink mid so_far outputs.Write
      (written_records form (done ++ own ∷ [])) (spelled form own) [] after
      (one_more form done own ∙ ap (λ bytes. written_records form done ++ bytes)
      (sym (append-nil (spelled form own)))) wrote

  left_so : (form : Option RecordForm) (sink mid after : W) (done : List Record) (own : Record) →
      WroteSoFar seen form sink mid done → WroteIn seen form own mid after (Err outputs.Memory) →
      WroteSoFar seen form sink after done
  left_so None sink mid after done own so_far wrote = absurd wrote
  left_so (Some form) sink mid after done own so_far same =
      subst (λ s. TookSoFar seen (written_records form done) sink s) (sym same) so_far

  module _ (sink mid after : W)
      (same : (seen mid).is_keeping ≡ true → (seen after).taken ≡ (seen mid).taken) where
    all_flushed : (form : Option RecordForm) (f : RecordForm) → form ≡ Some f →
        (seen after).failures ≡ (seen mid).failures → IsSettled (seen after) →
        ((seen mid).is_keeping ≡ true → (seen after).is_keeping ≡ true) →
        (done : List Record) → WroteSoFar seen form sink mid done →
        WroteAll seen form sink after done
    all_flushed None f is counted settled still done so_far = cc
    all_flushed (Some form) f is counted settled still done so_far =
        flushed seen (written_records form done) sink mid so_far after same counted settled still

    part_flushed : (form : Option RecordForm) (f : RecordForm) → form ≡ Some f →
        (seen after).failures ≡ after_failure (seen mid).failures → (done : List Record) →
        WroteSoFar seen form sink mid done → WrotePart seen form sink after done
    part_flushed None f is counted done so_far = cc
    part_flushed (Some form) f is counted done so_far =
        unflushed seen (written_records form done) sink mid so_far after same counted

-- ---- the numbers

-- The numbers are those of these changes, for every map that has what they tell.
abbrev pub AreCounted : Bool → List RootChange → ChangeCounts → Type 0
AreCounted stat changes counts = stat ≡ true → (old : List Pair) →
    AllByRecursion (λ change. find old (record_of change).key ≡ before_of change) changes →
    AreCounts old (map record_of changes) counts

more_counted : (stat : Bool) (changes : List RootChange) (change : RootChange)
    (counts later : ChangeCounts) → (stat ≡ true → Counts change counts later) →
    AreCounted stat changes counts → AreCounted stat (changes ++ change ∷ []) later
more_counted stat changes change counts later count counted = λ asked old had.
    subst (λ records. AreCounts old records later)
    (sym (map-append record_of changes (change ∷ [])))
    (count asked old (map record_of changes) (counted asked old
    (all_front (λ c. find old (record_of c).key ≡ before_of c) changes (change ∷ []) had))
    (all_back (λ c. find old (record_of c).key ≡ before_of c) changes (change ∷ []) had).0)

-- the line after the last change
line_told : {T U : Type 0} (law : WalksAreRight) (version : Version) (old new : List ℕ)
    (stat : Bool) (walk : Walk T U) → walk.version ≡ version → (way : List Move) →
    Leads version (at_roots old new) way (lefts_of walk) → AreNoted way walk.notes →
    IsAtEnd (lefts_of walk).before → IsAtEnd (lefts_of walk).after → (counts : ChangeCounts) →
    AreCounted stat (changes_on way) counts → (line : List ℕ) →
    TellsNumbers stat walk counts line → IsStatLine stat version old new way line
line_told law version old new false walk same way lead noted at_end at_end' counts counted line
    tells = tells
line_told law version old new true walk same way lead noted at_end at_end' counts counted line
    tells = λ bits bits' m m' rising lawful rising' lawful' is is'.
    let from = subst (λ r. Leads version r way (lefts_of walk))
    (ap (λ r. at_roots r new) is ∙ ap (at_roots _) is') lead in
    join bits bits' m m'
    (law version bits bits' m m' way (lefts_of walk) rising lawful rising' lawful' from)
    (subst (λ v. TellsMissing v (lefts_of walk) walk.notes tells.0) same tells.1
    bits bits' m m' way rising lawful rising' lawful' from noted at_end at_end')
  where
    join : (bits bits' : ℕ) (m m' : List Pair) →
        AreChangesOf m m' (changes_on way) (lefts_of walk) ⊎ Clashing (read_on way)
        (chunk_bytes version bits m ++ chunk_bytes version bits' m') →
        AreSo (lacking (chunk_bytes version bits m) (chunk_bytes version bits' m')) tells.0
        ⊎ Clashing (read_on way)
        (chunk_bytes version bits m ++ chunk_bytes version bits' m') →
        (line ≡ counts_line (record { version = version; bits = bits; pairs = m })
        (record { version = version; bits = bits'; pairs = m' }) (records_on way))
        ⊎ Clashing (read_on way) (chunk_bytes version bits m ++ chunk_bytes version bits' m')
    join bits bits' m m' (inl a) (inl b) = inl (tells.2 ∙
        line_is (record { version = version; bits = bits; pairs = m })
        (record { version = version; bits = bits'; pairs = m' }) (records_on way) counts tells.0
        (counted refl m a.before) b)
    join bits bits' m m' (inl a) (inr z) = inr z
    join bits bits' m m' (inr z) b = inr z

-- ---- faults

module _ (goes_over goes_over' : ChunkFile → Type 0) (version : Version) (old new : List ℕ)
    (took took_part : List Record → Type 0) where
  abbrev Gave : Type 0
  Gave = GaveFirst goes_over goes_over' version old new (λ way. took (records_on way))

  abbrev Stopped : Fault → Type 0
  Stopped fault = IsStoppedDiff goes_over goes_over' version old new took took_part fault

  pub walk_stopped : (fault : RootDiffFault) → Gave → ((f : RootFault) → fault ≡ walks.Old f →
      MayStopInOld goes_over goes_over' version old new f) → ((f : RootFault) →
      fault ≡ walks.New f → MayStopInNew goes_over goes_over' version old new f) →
      Stopped (fault_of fault)
  walk_stopped walks.Memory gave a b = inl (gave, tt)
  walk_stopped walks.Stopped gave a b = inl (gave, tt)
  walk_stopped (walks.Old f) gave a b = inl (gave, a f refl)
  walk_stopped (walks.New f) gave a b = inl (gave, b f refl)

  -- before the walk began nothing was given
  pub none_gave : took [] → Gave
  none_gave none = record {
    way = [];
    rest = at_roots old new;
    walked = record {
      lead = refl;
      comes = λ file goes. (tree_at old, refl);
      comes' = λ file goes. (tree_at new, refl);
    };
    so = none;
  }

  pub memory_stopped : (fault : Fault) → fault ≡ faults.Memory → Gave → Stopped fault
  memory_stopped fault is gave = subst Stopped (sym is) (inl (gave, tt))

-- ---- the changes

-- These changes were written and counted so far.
pub record AreWrittenSoFar {W : Type 0} (seen : W → SinkView) (form : Option RecordForm)
    (stat : Bool) (changes : List RootChange) (changed : Bool) (counts : ChangeCounts)
    (sink sink' : W) : Type 0 where
  pub took : WroteSoFar seen form sink sink' (map record_of changes)
  pub some : changed ≡ are_some (map record_of changes)
  pub counted : AreCounted stat changes counts

some_more : (changes : List RootChange) (change : RootChange) →
    true ≡ are_some (map record_of (changes ++ change ∷ []))
some_more [] change = refl
some_more (c ∷ changes) change = refl

module _ {W : Type 0} (seen : W → SinkView) (form : Option RecordForm) (stat : Bool) where
  pub begins : (counts : ChangeCounts) → ((m : List Pair) → AreCounts m [] counts) → (sink : W) →
      AreWrittenSoFar seen form stat [] false counts sink sink
  begins counts none sink = record {
    took = wrote_none seen form sink;
    some = refl;
    counted = λ asked old had. none old;
  }

  module _ (changes : List RootChange) (changed : Bool) (counts : ChangeCounts) (sink mid : W)
      (w : AreWrittenSoFar seen form stat changes changed counts sink mid) (change : RootChange)
    where
      pub goes_on : (later : ChangeCounts) → (stat ≡ true → Counts change counts later) →
          (x : Unit {0}) (after : W) → WroteIn seen form (record_of change) mid after (Ok x) →
          AreWrittenSoFar seen form stat (changes ++ change ∷ []) true later sink after
      goes_on later count x after wrote = record {
        took = subst (WroteSoFar seen form sink after)
            (sym (map-append record_of changes (change ∷ []))) (wrote_more seen form sink mid after
            (map record_of changes) (record_of change) x w.took wrote);
        some = some_more changes change;
        counted = more_counted stat changes change counts later count w.counted;
      }

      pub cut_off_at : (after : W) →
          WroteIn seen form (record_of change) mid after (Err outputs.Write) →
          WrotePart seen form sink after (map record_of (changes ++ change ∷ []))
      cut_off_at after wrote = subst (WrotePart seen form sink after)
          (sym (map-append record_of changes (change ∷ []))) (wrote_until seen form sink mid after
          (map record_of changes) (record_of change) w.took wrote)

-- ---- where it ends

module _ {S T R U W : Type 0} (goes_over : S → ChunkFile → Type 0) (failures : S → ℕ)
    (stands : ChunkFile → T → ℕ → ℕ → Type 0) (goes_over' : R → ChunkFile → Type 0)
    (failures' : R → ℕ) (stands' : ChunkFile → U → ℕ → ℕ → Type 0) (version : Version)
    (root root' : List ℕ) (start source : S) (start' source' : R) (at : Side T) (at' : Side U)
    (notes : Option Notes) (w : IsWalking goes_over failures stands goes_over' failures' stands'
    version root root' start source start' source' at at' notes) (seen : W → SinkView)
    (form : Option RecordForm) (stat : Bool) (changed : Bool) (counts : ChangeCounts) (sink mid : W)
    (so : AreWrittenSoFar seen form stat w.changes changed counts sink mid) where
  -- what was given was written
  pub gave_so_far : GaveFirst (goes_over start) (goes_over' start') version root root' (λ way.
      WroteSoFar seen form sink mid (records_on way))
  gave_so_far = gave goes_over failures stands goes_over' failures' stands' version root root' start
      start' source source' at at' notes w (WroteSoFar seen form sink mid) so.took

  -- where it came to the end, so it is with what is told then, or with want of memory for it
  pub all_told : WalksAreRight → (walk : Walk T U) → walk.version ≡ version → (last : S)
      (last' : R) (end : IsWalking goes_over failures stands goes_over' failures' stands' version
      root root' start last start' last' walk.before walk.after walk.notes) →
      end.changes ≡ w.changes ++ [] → IsAtEnd (lefts_of walk).before →
      IsAtEnd (lefts_of walk).after → (result : Result Told Fault) →
      IfOk result (λ told. told.changed ≡ changed) →
      IfOk result (λ told. TellsNumbers stat walk counts told.line.items) →
      IfErr result (λ fault. fault ≡ faults.Memory) → IsEndedDiff (goes_over start)
      (goes_over' start') version root root' (WroteSoFar seen form sink mid)
      (WrotePart seen form sink mid) stat result
  all_told law walk same last last' end are at_end at_end' (Err fault) flag line is =
      memory_stopped (goes_over start) (goes_over' start') version root root'
      (WroteSoFar seen form sink mid) (WrotePart seen form sink mid) fault is gave_so_far
  all_told law walk same last last' end are at_end at_end' (Ok told) flag line is =
      let walked = went goes_over failures stands goes_over' failures' stands' version root root'
      start start' last last' walk.before walk.after walk.notes end in
      let given = sym (end.on.gives ∙ are ∙ append-nil w.changes) in record {
        first = record {
          way = end.on.way;
          rest = lefts_of walk;
          walked = walked;
          so = (
            subst (λ cs. WroteSoFar seen form sink mid (map record_of cs)) given so.took,
            flag ∙ so.some ∙ ap (λ cs. are_some (map record_of cs)) given,
            line_told law version root root' stat walk same end.on.way walked.lead
                (noted_so goes_over failures stands goes_over' failures' stands' version root root'
                start start' last last' walk.before walk.after walk.notes end) at_end at_end' counts
                (subst (λ cs. AreCounted stat cs counts) given so.counted) told.line.items line,
          );
        };
        at_end = (at_end, at_end');
      }

  -- where the change that it gives next was not written
  pub unwritten : (change : RootChange) (later : S) (later' : R) (next : Side T) (next' : Side U)
      (more : Option Notes) (on : IsWalking goes_over failures stands goes_over' failures' stands'
      version root root' start later start' later' next next' more) →
      on.changes ≡ w.changes ++ change ∷ [] → (fault : OutputFault) (after : W) →
      WroteIn seen form (record_of change) mid after (Err fault) → IsStoppedDiff (goes_over start)
      (goes_over' start') version root root' (WroteSoFar seen form sink after)
      (WrotePart seen form sink after) (told fault)
  unwritten change later later' next next' more on are outputs.Memory after wrote = inl (
    gave goes_over failures stands goes_over' failures' stands' version root root' start start'
        source source' at at' notes w (WroteSoFar seen form sink after)
        (left_so seen form sink mid after (map record_of w.changes) (record_of change) so.took wrote),
    tt,
  )
  unwritten change later later' next next' more on are outputs.Write after wrote = inr (
    gave goes_over failures stands goes_over' failures' stands' version root root' start start'
        later later' next next' more on (WrotePart seen form sink after)
        (subst (λ cs. WrotePart seen form sink after (map record_of cs)) (sym are)
        (cut_off_at seen form stat w.changes changed counts sink mid so change after wrote)),
    refl,
  )

-- ---- the flush

module _ {W : Type 0} (seen : W → SinkView) (goes_over goes_over' : ChunkFile → Type 0)
    (version : Version) (old new : List ℕ) (form : Option RecordForm) (f : RecordForm)
    (is_form : form ≡ Some f) (sink mid after : W) (stat : Bool) where
  abbrev So : List Record → Type 0
  So = WroteSoFar seen form sink mid

  abbrev All : List Record → Type 0
  All = WroteAll seen form sink after

  abbrev Before : Result Told Fault → Type 0
  Before = IsEndedDiff goes_over goes_over' version old new So (WrotePart seen form sink mid) stat

  abbrev After : Result Told Fault → Type 0
  After = IsEndedDiff goes_over goes_over' version old new All (WrotePart seen form sink after) stat

  -- what holds of a way so holds of it otherwise, too
  also : (P Q : List Move → Type 0) → ((way : List Move) → P way → Q way) →
      GaveFirst goes_over goes_over' version old new P →
      GaveFirst goes_over goes_over' version old new Q
  also P Q then d =
      record { way = d.way; rest = d.rest; walked = d.walked; so = then d.way d.so }

  -- no write failed, and the sink is flushed
  done_flushed : ((records : List Record) → So records → All records) →
      (outcome : Result Told Fault) → outcome ≢ Err faults.Write → Before outcome → After outcome
  done_flushed all (Ok told) other d = record {
    first = record {
      way = d.first.way;
      rest = d.first.rest;
      walked = d.first.walked;
      so = (all (records_on d.first.way) d.first.so.0, d.first.so.1, d.first.so.2);
    };
    at_end = d.at_end;
  }
  done_flushed all (Err fault) other (inl d) = inl (
    also (λ way. So (records_on way)) (λ way. All (records_on way)) (λ way. all (records_on way))
        d.0,
    d.1,
  )
  done_flushed all (Err fault) other (inr d) = absurd (other (ap Err d.1))

  -- no write failed: it went this way first
  first_given : (outcome : Result Told Fault) → outcome ≢ Err faults.Write → Before outcome →
      GaveFirst goes_over goes_over' version old new (λ way. So (records_on way))
  first_given (Ok told) other d = record {
    way = d.first.way;
    rest = d.first.rest;
    walked = d.first.walked;
    so = d.first.so.0;
  }
  first_given (Err fault) other (inl d) = d.0
  first_given (Err fault) other (inr d) = absurd (other (ap Err d.1))

  -- a write failed
  cut_off : after ≡ mid → Before (Err faults.Write) → After (Err faults.Write)
  cut_off is (inl d) = absurd d.1
  cut_off is (inr d) = inr (
    subst (λ last. GaveFirst goes_over goes_over' version old new (λ way.
        WrotePart seen form sink last (records_on way))) (sym is) d.0,
    refl,
  )

  pub diff_told : (outcome shown : Result Told Fault) → Before outcome →
      IsSettledAs seen faults.Write mid after outcome shown → After shown
  diff_told outcome shown d (inl is) =
      subst After (sym (is.1 ∙ is.0)) (cut_off is.2 (subst Before is.0 d))
  diff_told outcome shown d (inr is) = elim is.1.tells [
    | inl s ↦ subst After (sym s.0) (done_flushed
        (all_flushed seen sink mid after is.1.same form f is_form s.1 s.2 is.1.keeping) outcome is.0 d)
    | inr s ↦ subst After (sym s.0) (inr (
      also (λ way. So (records_on way)) (λ way. WrotePart seen form sink after (records_on way))
          (λ way. part_flushed seen sink mid after is.1.same form f is_form s.1 (records_on way))
          (first_given outcome is.0 d),
      refl,
    ))
  ]

-- ---- what is told of the sources

-- What is told of the calls of a source beside a fault.
abbrev pub TellsBeside : (RootFault → Fault) → ℕ → ℕ → Fault → Type 0
TellsBeside own old new fault = (((fault ≡ own roots.Read) ⊎ (fault ≡ faults.Write)) ×
    (new ≡ after_failure old)) ⊎ ((fault ≢ own roots.Read) × (new ≡ old))

module _ (own : RootFault → Fault) (other : (f : RootFault) → own f ≡ faults.Write → ⊥)
    (old new : ℕ) where
  pub memory_tells : (fault : Fault) → fault ≡ faults.Memory →
      ((f : RootFault) → own f ≡ faults.Memory → ⊥) → new ≡ old → TellsBeside own old new fault
  memory_tells fault is none same = inr (λ e. none roots.Read (sym e ∙ is), same)

  pub told_reads : ((f : RootFault) → own f ≡ faults.Memory → ⊥) → new ≡ old →
      (result : Result Told Fault) → IfErr result (λ fault. fault ≡ faults.Memory) →
      TellsDiffReads own old new result
  told_reads none same (Ok told) is = same
  told_reads none same (Err fault) is = memory_tells fault is none same

abbrev is_read : RootFault → Bool
is_read roots.Read = true
is_read fault = false

module _ (own : RootFault → Fault) (one : (f g : RootFault) → own f ≡ own g → f ≡ g) (old new : ℕ)
  where
    not_read : (f : RootFault) → is_read f ≡ false → own f ≡ own roots.Read → ⊥
    not_read f none e = false≢true (sym none ∙ ap is_read (one f roots.Read e))

    own_tells : (f : RootFault) → TellsFailure old new f → TellsBeside own old new (own f)
    own_tells roots.Read t = inl (inl refl, t)
    own_tells roots.Memory t = inr (not_read roots.Memory refl, t)
    own_tells roots.Header t = inr (not_read roots.Header refl, t)
    own_tells roots.Version t = inr (not_read roots.Version refl, t)
    own_tells roots.Truncated t = inr (not_read roots.Truncated refl, t)
    own_tells (roots.Frame chunk) t = inr (not_read (roots.Frame chunk) refl, t)
    own_tells roots.Trailing t = inr (not_read roots.Trailing refl, t)
    own_tells roots.Missing t = inr (not_read roots.Missing refl, t)
    own_tells (roots.Reference chunk) t = inr (not_read (roots.Reference chunk) refl, t)
    own_tells (roots.Chunk chunk) t = inr (not_read (roots.Chunk chunk) refl, t)
    own_tells (roots.KeysOutOfOrder chunk) t = inr (not_read (roots.KeysOutOfOrder chunk) refl, t)
    own_tells (roots.Level chunk) t = inr (not_read (roots.Level chunk) refl, t)

pub old_write : (f : RootFault) → faults.RootOld f ≡ faults.Write → ⊥
old_write f e = cc

pub new_write : (f : RootFault) → faults.RootNew f ≡ faults.Write → ⊥
new_write f e = cc

pub old_memory : (f : RootFault) → faults.RootOld f ≡ faults.Memory → ⊥
old_memory f e = cc

pub new_memory : (f : RootFault) → faults.RootNew f ≡ faults.Memory → ⊥
new_memory f e = cc

one_old : (f g : RootFault) → faults.RootOld f ≡ faults.RootOld g → f ≡ g
one_old f g e = cc

one_new : (f g : RootFault) → faults.RootNew f ≡ faults.RootNew g → f ≡ g
one_new f g e = cc

module _ {S : Type 0} (goes_over : S → ChunkFile → Type 0) (failures : S → ℕ) (first old new : S)
    (same : failures old ≡ failures first) where
  pub walk_tells_old : (fault : RootDiffFault) →
      TellsOld {C = Option RootChange} goes_over failures old new (Err fault) →
      TellsBeside faults.RootOld (failures first) (failures new) (fault_of fault)
  walk_tells_old (walks.Old f) t = own_tells faults.RootOld one_old (failures first) (failures new) f
      (subst (λ n. TellsFailure n (failures new) f) same t.told)
  walk_tells_old (walks.New f) t = inr (λ e. cc, t.failures_are ∙ same)
  walk_tells_old walks.Memory t = inr (λ e. cc, t.failures_are ∙ same)
  walk_tells_old walks.Stopped t = inr (λ e. cc, t.failures_are ∙ same)

  pub walk_tells_new : (fault : RootDiffFault) →
      TellsNew {C = Option RootChange} goes_over failures old new (Err fault) →
      TellsBeside faults.RootNew (failures first) (failures new) (fault_of fault)
  walk_tells_new (walks.New f) t = own_tells faults.RootNew one_new (failures first) (failures new) f
      (subst (λ n. TellsFailure n (failures new) f) same t.told)
  walk_tells_new (walks.Old f) t = inr (λ e. cc, t.failures_are ∙ same)
  walk_tells_new walks.Memory t = inr (λ e. cc, t.failures_are ∙ same)
  walk_tells_new walks.Stopped t = inr (λ e. cc, t.failures_are ∙ same)

pub output_old : (fault : OutputFault) (old new : ℕ) → new ≡ old →
    TellsBeside faults.RootOld old new (told fault)
output_old outputs.Memory old new same = inr (λ e. cc, same)
output_old outputs.Write old new same = inr (λ e. cc, same)

pub output_new : (fault : OutputFault) (old new : ℕ) → new ≡ old →
    TellsBeside faults.RootNew old new (told fault)
output_new outputs.Memory old new same = inr (λ e. cc, same)
output_new outputs.Write old new same = inr (λ e. cc, same)
