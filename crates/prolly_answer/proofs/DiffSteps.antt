-- Writing a difference record by record.
use Rattle.std.proofs.Common.{◌≡◌, ◌≢◌, ◌⊎◌, inl, inr, ℕ, ◌+◌, ◌<◌, ◌≤◌, ◌^◌, Bool, true, false}
use Rattle.std.proofs.Common.{cond, List, [], ◌∷◌, ◌++◌, length, Option, Some, None, Result, Ok}
use Rattle.std.proofs.Common.{Err, refl, sym, ap, ◌∙◌, subst, arith, append_assoc, append-nil}
use Rattle.std.proofs.Common.{length-append}
use Rattle.std.proofs.lemmas.List.Concat.{flat_map-append}
use Rattle.std.specs.List.{AllByRecursion}
use Rattle.std.specs.Ordering.{is_eq}
use Rattle.prolly_entry.specs.Keys.{KeyBelow, key_order}
use Rattle.prolly_entry.specs.Overlay.{change_of}
use Rattle.prolly_entry.specs.Pair.{Pair, IsPair}
use Rattle.prolly_entry.specs.Record.{Record, IsRecord, IsChange}
use Rattle.prolly_entry.specs.lemmas.Lists.{all_back, all_front}
use Rattle.prolly_entry.specs.lemmas.Orders.{order_self, order_same, eq_true, not_eq_below}
use Rattle.prolly_entry.specs.lemmas.RisingRecords.{AllAbove, IsRising, is_rising}
use Rattle.prolly_tree.specs.Difference.{IsChangeTo, IsDifference}
use Rattle.prolly_tree.specs.LookUp.{find}
use Rattle.prolly_tree.specs.lemmas.Differences.{some_difference}
use Rattle.prolly_io.specs.Failures.{after_failure}
use Rattle.prolly_io.specs.Sink.{IsSettled, SinkView}
use Rattle.prolly_range.specs.lemmas.Unfailed.{other_failures}
use Rattle.prolly_io.specs.Writes.{Writes}
use Rattle.prolly_tree.specs.Walks.{Maps, AreMaps, IsFirstChange}
use Rattle.std.specs.Prelude.{IfOk, OnErr}
use Rattle.prolly_check.specs.Chunks.{IsFile}
use Rattle.prolly_look_up.specs.Content.{Content, IsFileOf}
use Rattle.prolly_check.specs.lemmas.Sizes.{few_pairs}
use Rattle.prolly_fault.specs.declared.output_fault.OutputFault.TheVariants.{Memory, Write}
use Rattle.prolly_fault.specs.declared.answer.Answer.{Answer}
use Rattle.prolly_answer.specs.declared.answers.diff.ChangeCounts.{ChangeCounts}
use Rattle.prolly_text.specs.declared.lines.form.RecordForm.{RecordForm}
use Rattle.prolly_answer.specs.Counts.{AreCounts}
use Rattle.prolly_answer.specs.Diff.{AreTwoFiles, AreStopped, AreWritten, HasDifference}
use Rattle.prolly_answer.specs.Diff.{HaveChanges, ShowsDiff}
use Rattle.prolly_answer.specs.LookUps.{file_limit}
use Rattle.prolly_answer.specs.Outputs.{IsPart, TookAll, TookPrefix, TookUntil}
use Rattle.prolly_text.specs.RecordForms.{spelled, spelled_in, written_records}
use Rattle.prolly_answer.proofs.Answering.{looked_up}
use Rattle.prolly_answer.proofs.Writing.{TookSoFar, took_none, took_more, took_front, took_until}
use Rattle.prolly_answer.proofs.Writing.{flushed, unflushed}
use Rattle.prolly_answer.proofs.Counting.{all_counted}

-- ---- the records of a difference are lawful

none_some : (value : List ℕ) → None ≡ Some value → ⊥
none_some value e = cc

found_short : (m : List Pair) (key value : List ℕ) → AllByRecursion IsPair m →
    find m key ≡ Some value → (length key ≤ 1024) × (length value ≤ 65536)
found_short [] key value h e = absurd (none_some value e)
found_short (p ∷ ps) key value h e =
    go (found_short ps key value h.1) (is_eq (key_order p.key key)) refl e
  where
    value_is : (v w : List ℕ) → Some v ≡ Some w → v ≡ w
    value_is v w e = cc

    go : (find ps key ≡ Some value → (length key ≤ 1024) × (length value ≤ 65536)) →
        (b : Bool) → is_eq (key_order p.key key) ≡ b →
        cond b (Some p.value) (find ps key) ≡ Some value →
        (length key ≤ 1024) × (length value ≤ 65536)
    go more true same found = (
      subst (λ k. length k ≤ 1024) (order_same p.key key (eq_true (key_order p.key key) same))
          h.0.key,
      subst (λ v. length v ≤ 65536) (value_is p.value value found) h.0.value,
    )
    go more false other found = more found

above_last : (x : List ℕ) (done : List Record) (r : Record) (rest : List Record) →
    AllAbove x (done ++ r ∷ rest) → is_eq (key_order x r.key) ≡ false
above_last x [] r rest h = not_eq_below x r.key h.0
above_last x (s ∷ done) r rest h = above_last x done r rest h.1

said_there : (done : List Record) (r : Record) (rest : List Record) →
    IsRising (done ++ r ∷ rest) → change_of (done ++ r ∷ rest) r.key ≡ Some r.value
said_there [] r rest h =
    ap (λ b. cond b (Some r.value) (change_of rest r.key)) (ap is_eq (order_self r.key))
said_there (s ∷ done) r rest h =
    ap (λ b. cond b (Some s.value) (change_of (done ++ r ∷ rest) r.key))
    (above_last s.key done r rest h.0) ∙ said_there done r rest h.1

change_short : (old new : List Pair) (key : List ℕ) (before after value : Option (List ℕ)) →
    AllByRecursion IsPair old → AllByRecursion IsPair new → find old key ≡ before →
    find new key ≡ after → IsChangeTo before after (Some value) →
    (length key ≤ 1024) × IsChange value
change_short old new key before (Some v) value h k e f is =
    let short = found_short new key v k f in
    (short.0, subst IsChange (sym is.0) short.1)
change_short old new key (Some v) None value h k e f is =
    ((found_short old key v h e).0, subst IsChange (sym is.0) tt)
change_short old new key None None value h k e f is = absurd (is.1 refl)

record_short : (old new : List Pair) (done : List Record) (r : Record) (rest : List Record) →
    AllByRecursion IsPair old → AllByRecursion IsPair new →
    IsDifference old new (done ++ r ∷ rest) → IsRecord r
record_short old new done r rest h k is =
    let says = subst (λ word. IsChangeTo (find old r.key) (find new r.key) word)
    (said_there done r rest (is_rising (done ++ r ∷ rest) is.rising)) (is.says r.key) in
    let short = change_short old new r.key (find old r.key) (find new r.key) r.value h k refl refl
    says in
    record { key = short.0; value = short.1 }

-- ---- under way

-- The records were written, and no call of the sink failed; or there is no form, and nothing was.
abbrev pub TookIn : {W : Type 0} → (W → SinkView) → Option RecordForm → List Record → W → W →
    Type 0
TookIn seen None records old new = new ≡ old
TookIn seen (Some form) records old new = TookSoFar seen (written_records form records) old new

-- The keys of these records are below the key.
abbrev AreBelow : List Record → List ℕ → Type 0
AreBelow records key = AllByRecursion (λ r. KeyBelow r.key key) records

-- A record whose keys rise comes behind those that are before it.
below_next : (done : List Record) (r : Record) (rest : List Record) →
    IsRising (done ++ r ∷ rest) → AreBelow done r.key
below_next [] r rest h = tt
below_next (s ∷ done) r rest h = (below_at s.key done r rest h.0, below_next done r rest h.1)
  where
    below_at : (x : List ℕ) (done : List Record) (r : Record) (rest : List Record) →
        AllAbove x (done ++ r ∷ rest) → KeyBelow x r.key
    below_at x [] r rest h = h.0
    below_at x (s ∷ done) r rest h = below_at x done r rest h.1

-- Some records were written, and those of the maps that are left follow; what the one map has of
-- greater keys is left of it.
pub record IsWritten {W : Type 0} (seen : W → SinkView) (form : Option RecordForm)
    (all left : Maps) (counts : ChangeCounts) (old new : W) : Type 0 where
  pub done : List Record
  pub goes_on : (d : List Record) → IsDifference left.before left.after d →
      IsDifference all.before all.after (done ++ d)
  pub maps : AreMaps left
  pub greater : (key : List ℕ) → AreBelow done key → find all.before key ≡ find left.before key
  pub took : TookIn seen form done old new
  pub counted : AreCounts all.before done counts
  pub few : length done + (length left.before + length left.after) ≤
      length all.before + length all.after

took_nothing : {W : Type 0} (seen : W → SinkView) (form : Option RecordForm) (old : W) →
    TookIn seen form [] old old
took_nothing seen None old = refl
took_nothing seen (Some form) old = took_none seen old

module _ {W : Type 0} (seen : W → SinkView) (form : Option RecordForm) (all : Maps) where
  pub none_written : (old : W) (counts : ChangeCounts) → AreMaps all →
      ((pairs : List Pair) → AreCounts pairs [] counts) →
      IsWritten seen form all all counts old old
  none_written old counts maps none = record {
    done = [];
    goes_on = λ d is. is;
    maps = maps;
    greater = λ key below. refl;
    took = took_nothing seen form old;
    counted = none all.before;
    few = omega arith;
  }

-- ---- one change more

one_more : (form : RecordForm) (done : List Record) (own : Record) →
    written_records form (done ++ own ∷ []) ≡ written_records form done ++ spelled form own
one_more form done own = flat_map-append (spelled form) done (own ∷ []) ∙
    ap (λ bytes. written_records form done ++ bytes) (append-nil (spelled form own))

all_parts : (form : RecordForm) (done : List Record) (own : Record) (later : List Record) →
    written_records form (done ++ own ∷ later) ≡
    written_records form done ++ (spelled form own ++ written_records form later)
all_parts form done own later = flat_map-append (spelled form) done (own ∷ later)

module _ {W : Type 0} (seen : W → SinkView) (done : List Record) (own : Record)
    (old mid new : W) where
  took_one : {T E : Type 0} (form : Option RecordForm) (x : T) → TookIn seen form done old mid →
      Writes {T = T} {E = E} (spelled_in form own) (seen mid) (seen new) (Ok x) →
      (spelled_in form own ≡ [] → new ≡ mid) → TookIn seen form (done ++ own ∷ []) old new
  took_one None x took writes nothing = nothing refl ∙ took
  took_one (Some form) x took writes nothing =
      subst (λ bytes. TookSoFar seen bytes old new) (sym (one_more form done own))
      (took_more seen (written_records form done) old mid took x (spelled form own) new writes)

  -- Want of memory stops only what is to be written.
  stopped_before : (form : Option RecordForm) (later : List Record) → form ≢ None →
      TookIn seen form done old mid →
      AreStopped form (λ fault bytes. TookUntil seen fault bytes old mid) Memory
      (done ++ own ∷ later)
  stopped_before None later some took = absurd (some refl)
  stopped_before (Some form) later some took = took_front seen (written_records form done) old mid
      took (written_records form (done ++ own ∷ later)) (written_records form (own ∷ later))
      (all_parts form done own later)

  -- And so does a failed write.
  stopped_within : {T E : Type 0} (form : Option RecordForm) (later : List Record) (x : E) →
      TookIn seen form done old mid →
      Writes {T = T} {E = E} (spelled_in form own) (seen mid) (seen new) (Err x) →
      (spelled_in form own ≡ [] → new ≡ mid) →
      AreStopped form (λ fault bytes. TookUntil seen fault bytes old new) Write
      (done ++ own ∷ later)
  stopped_within None later x took writes nothing = absurd (other_failures (seen mid).failures
      (sym writes.failures ∙ ap (λ w. (seen w).failures) (nothing refl)))
  stopped_within (Some form) later x took writes nothing =
      took_until seen (written_records form done) old mid took x
      (written_records form (done ++ own ∷ later)) (spelled form own)
      (written_records form later) new (all_parts form done own later) writes

module _ {W : Type 0} (seen : W → SinkView) (form : Option RecordForm) (all left rest : Maps)
    (counts : ChangeCounts) (key : List ℕ) (before after : Option (List ℕ))
    (first : IsFirstChange left key before after rest) (old mid : W)
    (w : IsWritten seen form all left counts old mid) where
  abbrev own : Record
  own = record { key = key; value = after }

  abbrev later : List Record
  later = (some_difference rest.before rest.after first.left.0 first.left.1).0

  whole : IsDifference all.before all.after (w.done ++ own ∷ later)
  whole = w.goes_on (own ∷ later) (first.begins later
      (some_difference rest.before rest.after first.left.0 first.left.1).1)

  pub change_lawful : AllByRecursion IsPair all.before → AllByRecursion IsPair all.after →
      IsRecord own
  change_lawful h k = record_short all.before all.after w.done own later h k whole

  pub room_for_one : length all.before + length all.after + 1 < 2 ^ 64 →
      counts.added + counts.changed + counts.removed + 1 < 2 ^ 64
  room_for_one few = let n = all_counted all.before w.done counts w.counted in
      let m = w.few in let l = first.less in omega arith

  -- the whole old map has at the key what is left of it has
  old_has : find all.before key ≡ before
  old_has = w.greater key (below_next w.done own later
      (is_rising (w.done ++ own ∷ later) whole.rising)) ∙ first.before_is

  pub one_written : {T E : Type 0} (x : T) (new : W) (more : ChangeCounts) →
      ((records : List Record) → AreCounts all.before records counts →
      find all.before key ≡ before → AreCounts all.before (records ++ own ∷ []) more) →
      Writes {T = T} {E = E} (spelled_in form own) (seen mid) (seen new) (Ok x) →
      (spelled_in form own ≡ [] → new ≡ mid) → IsWritten seen form all rest more old new
  one_written x new more counted writes nothing = record {
    done = w.done ++ own ∷ [];
    goes_on = λ d is. subst (λ rs. IsDifference all.before all.after rs)
        (sym (append_assoc w.done (own ∷ []) d)) (w.goes_on (own ∷ d) (first.begins d is));
    maps = first.left;
    greater = λ other below. w.greater other
        (all_front (λ r. KeyBelow r.key other) w.done (own ∷ []) below) ∙
        first.greater other (all_back (λ r. KeyBelow r.key other) w.done (own ∷ []) below).0;
    took = took_one seen w.done own old mid new form x w.took writes nothing;
    counted = counted w.done w.counted old_has;
    few = let m = w.few in let l = first.less in
        omega (arith, length-append w.done (own ∷ []));
  }

  pub stopped_short : form ≢ None → HasDifference all.before all.after
      (AreStopped form (λ fault bytes. TookUntil seen fault bytes old mid) Memory)
  stopped_short some = record {
    records = w.done ++ own ∷ later;
    is = whole;
    so = stopped_before seen w.done own old mid mid form later some w.took;
  }

  pub write_failed : {T E : Type 0} (x : E) (new : W) →
      Writes {T = T} {E = E} (spelled_in form own) (seen mid) (seen new) (Err x) →
      (spelled_in form own ≡ [] → new ≡ mid) → HasDifference all.before all.after
      (AreStopped form (λ fault bytes. TookUntil seen fault bytes old new) Write)
  write_failed x new writes nothing = record {
    records = w.done ++ own ∷ later;
    is = whole;
    so = stopped_within seen w.done own old mid new form later x w.took writes nothing;
  }

-- ---- the end

module _ {W : Type 0} (seen : W → SinkView) (form : Option RecordForm) (all left : Maps)
    (counts : ChangeCounts) (old mid : W) (w : IsWritten seen form all left counts old mid)
    (none : IsDifference left.before left.after []) where
  all_done : IsDifference all.before all.after w.done
  all_done = subst (λ rs. IsDifference all.before all.after rs) (append-nil w.done)
      (w.goes_on [] none)

  no_form : (f : RecordForm) → None ≡ Some f → ⊥
  no_form f e = cc

  abbrev AreAll : W → List Record → Type 0
  AreAll new records =
      AreWritten form (λ bytes. TookAll seen bytes old new) (new ≡ old) records ×
      AreCounts all.before records counts

  pub only_counted : form ≡ None → HasDifference all.before all.after (AreAll mid)
  only_counted e = record {
    records = w.done;
    is = all_done;
    so = (go form e w.took, w.counted);
  }
    where
      go : (f : Option RecordForm) → f ≡ None → TookIn seen f w.done old mid →
          AreWritten f (λ bytes. TookAll seen bytes old mid) (mid ≡ old) w.done
      go None e took = took
      go (Some f) e took = absurd (no_form f (sym e))

  module _ (new : W) (same : (seen mid).is_keeping ≡ true → (seen new).taken ≡ (seen mid).taken)
      (own_form : RecordForm) (some : form ≡ Some own_form) where
    pub all_written : (seen new).failures ≡ (seen mid).failures → IsSettled (seen new) →
        ((seen mid).is_keeping ≡ true → (seen new).is_keeping ≡ true) →
        HasDifference all.before all.after (AreAll new)
    all_written counted settled still = record {
      records = w.done;
      is = all_done;
      so = (go form some w.took, w.counted);
    }
      where
        go : (f : Option RecordForm) → f ≡ Some own_form → TookIn seen f w.done old mid →
            AreWritten f (λ bytes. TookAll seen bytes old new) (new ≡ old) w.done
        go None e took = absurd (no_form own_form e)
        go (Some f) e took =
            flushed seen (written_records f w.done) old mid took new same counted settled still

    pub flush_failed : (seen new).failures ≡ after_failure (seen mid).failures →
        HasDifference all.before all.after
        (AreStopped form (λ fault bytes. TookUntil seen fault bytes old new) Write)
    flush_failed counted = record {
      records = w.done;
      is = all_done;
      so = go form some w.took;
    }
      where
        go : (f : Option RecordForm) → f ≡ Some own_form → TookIn seen f w.done old mid →
            AreStopped f (λ fault bytes. TookUntil seen fault bytes old new) Write w.done
        go None e took = absurd (no_form own_form e)
        go (Some f) e took =
            unflushed seen (written_records f w.done) old mid took new same counted

-- ---- the answer

took_before : {W : Type 0} (seen : W → SinkView) (bytes : List ℕ) (old new : W) →
    TookAll seen bytes old new → TookPrefix seen bytes old new
took_before seen bytes old new all = record {
  unfailed = all.unfailed;
  took = λ k. record {
    part = bytes;
    grown = all.took k;
    is_prefix = ([], sym (append-nil bytes));
  };
}

-- Two files that a check accepted, and the maps that are walked over.
module _ (old new old_left new_left : List ℕ) (old_failed new_failed : Type 0) (maps : Maps)
    (olds : old ≡ old_left) (news : new ≡ new_left) (file : IsFile old) (other : IsFile new)
    (within : length old ≤ file_limit) (within' : length new ≤ file_limit)
    (unfailed : ¬ old_failed) (unfailed' : ¬ new_failed)
    (befores : (content : Content) → IsFileOf old content → maps.before ≡ content.pairs)
    (afters : (content : Content) → IsFileOf new content → maps.after ≡ content.pairs) where
  -- What holds of the difference of the maps is said of the files.
  pub compared : (holds : Content → Content → List Record → Type 0) (so : List Record → Type 0) →
      ((before after : Content) (records : List Record) → IsFileOf old before →
      IsFileOf new after → so records → holds before after records) →
      HasDifference maps.before maps.after so →
      AreTwoFiles old_left old_failed new_left new_failed holds
  compared holds so says h =
      looked_up old old_left old_failed _ olds file within unfailed
      (λ before is. looked_up new new_left new_failed _ news other within' unfailed'
      (λ after is'. record {
        records = h.records;
        is = subst (λ m. IsDifference m after.pairs h.records) (befores before is)
            (subst (λ m. IsDifference maps.before m h.records) (afters after is') h.is);
        so = says before after h.records is is' h.so;
      }))

  pub changes_so : (so : List Record → Type 0) → HasDifference maps.before maps.after so →
      HaveChanges old_left old_failed new_left new_failed so
  changes_so so h = compared (λ before after. so) so (λ before after records is is' h. h) h

  pub all_shown : {E : Type 0} (result : Result Answer E) (written : List Record → Type 0)
      (counts : ChangeCounts) (stat : Bool) (others : Answer → Type 0) →
      IfOk result (λ answer. (before after : Content) (records : List Record) →
      IsFileOf old before → IsFileOf new after → AreCounts before.pairs records counts →
      ShowsDiff answer stat before after records) →
      HasDifference maps.before maps.after
      (λ records. written records × AreCounts maps.before records counts) →
      IfOk result (λ answer. AreTwoFiles old_left old_failed new_left new_failed
      (λ before after records. written records × ShowsDiff answer stat before after records)
      ⊎ others answer)
  all_shown (Ok answer) written counts stat others shows h = inl (compared
      (λ before after records. written records × ShowsDiff answer stat before after records)
      (λ records. written records × AreCounts maps.before records counts)
      (λ before after records is is' so. (
        so.0,
        shows before after records is is'
            (subst (λ m. AreCounts m records counts) (befores before is) so.1),
      )) h)
  all_shown (Err e) written counts stat others shows h = tt

  -- There is no memory for the line, once all is written.
  pub unshown : {E W : Type 0} (result : Result Answer E) (seen : W → SinkView)
      (form : Option RecordForm) (counted : List Record → Type 0) (sink sink' : W) →
      HasDifference maps.before maps.after
      (λ records. AreWritten form (λ bytes. TookAll seen bytes sink sink') (sink' ≡ sink) records ×
      counted records) →
      OnErr result ((sink' ≡ sink) ⊎ IsPart (HaveChanges old_left old_failed new_left new_failed)
      (AreStopped form (λ fault bytes. TookUntil seen fault bytes sink sink')))
  unshown (Ok answer) seen form counted sink sink' h = tt
  unshown (Err e) seen None counted sink sink' h = inl h.so.0
  unshown (Err e) seen (Some form) counted sink sink' h = inr (record {
    fault = Memory;
    is = changes_so (λ records. TookPrefix seen (written_records form records) sink sink')
        (record {
          records = h.records;
          is = h.is;
          so = took_before seen (written_records form h.records) sink sink' h.so.0;
        });
  })

  pub few_changes : length maps.before + length maps.after + 1 < 2 ^ 64
  few_changes =
      let few = few_pairs old file.content file.is in
      let few' = few_pairs new other.content other.is in
      let n = ap length (befores file.content file.is) in
      let m = ap length (afters other.content other.is) in omega arith
