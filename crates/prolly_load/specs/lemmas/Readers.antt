-- What a reader of a record file gave, so far and once it has ended.
use Rattle.std.proofs.Common.{◌≡◌, ◌≢◌, ℕ, List, [], ◌++◌, Some, None, inl, inr}
use Rattle.std.proofs.Common.{refl, sym, ap, ◌∙◌, subst, append-nil}
use Rattle.std.specs.List.{flat_map}
use Rattle.prolly_entry.specs.declared.next.Flaw.{Flaw}
use Rattle.prolly_entry.specs.declared.next.Flaw.TheVariants as flaws
use Rattle.prolly_entry.specs.Keys.{Rising}
use Rattle.prolly_entry.specs.Prefix.{IsPrefix}
use Rattle.prolly_entry.specs.Reading.{Begins, IsReading as Reads}
use Rattle.prolly_entry.specs.Record.{Record, keys_of}
use Rattle.prolly_entry.specs.Spelling.{record_spelling}
use Rattle.prolly_io.specs.Source.{SourceView}
use Rattle.prolly_laws.specs.Readings.{begins_all, begins_none, ends_clean, first_are_good, one_reading}
use Rattle.prolly_link.specs.Growth.{items_between}
use Rattle.prolly_link.specs.Progress.{HasEnded, end_given}
use Rattle.prolly_link.specs.declared.message.End.{End}
use Rattle.prolly_link.specs.declared.message.End.TheVariants.{Clean, Fault}
use Rattle.prolly_link.specs.declared.message.Progress.{Progress}
use Rattle.prolly_link.specs.declared.message.Progress.TheVariants.{Open, Ended, Lost}
use Rattle.prolly_link.specs.declared.fault.RunFault.{RunFault}
use Rattle.prolly_link.specs.declared.fault.RunFault.TheVariants as faults
use Rattle.prolly_load.specs.Loaded.{AreFirstGood, EndsAs, FailsAs, IsLoaded, IsReadTo}
use Rattle.prolly_load.specs.Reader.{ComesTo, GivesRecords, HasGiven, HasGivenFirst, HasRecords}
use Rattle.prolly_load.specs.Reader.{IsLaterReading, Reading, new_reading}

-- ---- of any source

has_given : (a b : Reading) (progress : Progress) → IsLaterReading a b → a.progress ≡ Open →
    b.progress ≡ progress → HasGiven b progress
has_given a b progress h open_is e =
    subst (HasGiven b) e (h.gave_all (subst (HasGiven a) (sym open_is) tt))

-- The later one is of the same file and source.
of_first : (a b : Reading) (end : End) → IsLaterReading a b →
    ComesTo b.file b.limit b.begun b.source b.records end →
    ComesTo a.file a.limit a.begun b.source b.records end
of_first a b end h k =
    subst (λ x. ComesTo x a.limit a.begun b.source b.records end) h.file
    (subst (λ x. ComesTo b.file x a.begun b.source b.records end) h.limit
    (subst (λ x. ComesTo b.file b.limit x b.source b.records end) h.begun k))

-- What a reader gave that was open before is what its source comes to, with the end that it gave.
pub comes_to : (a b : Reading) (end : End) → IsLaterReading a b → a.progress ≡ Open →
    b.progress ≡ Ended end → ComesTo a.file a.limit a.begun b.source b.records end
comes_to a b end h open_is ended = of_first a b end h (has_given a b (Ended end) h open_is ended)

faults_rise : (file limit : ℕ) (bytes : List ℕ) (records : List Record) (fault : RunFault) →
    FailsAs file limit bytes records fault → Rising (keys_of records)
faults_rise file limit bytes records faults.Memory k = k.begins.rising
faults_rise file limit bytes records (faults.Read f) k = k.1.reading.begins.rising
faults_rise file limit bytes records (faults.Truncated f place) k = k.2.begins.rising
faults_rise file limit bytes records (faults.KeyTooLong f place) k = k.2.begins.rising
faults_rise file limit bytes records (faults.ValueTooLong f place) k = k.2.begins.rising
faults_rise file limit bytes records (faults.OutOfOrder f place) k = k.2.begins.rising
faults_rise file limit bytes records (faults.TooManyRecords f) k = k.1.begins.rising
faults_rise file limit bytes records faults.Write k = absurd k
faults_rise file limit bytes records faults.TooTall k = absurd k
faults_rise file limit bytes records faults.NoThread k = absurd k
faults_rise file limit bytes records faults.Lost k = absurd k
faults_rise file limit bytes records faults.TooManyFiles k = absurd k

ends_rise : (file limit : ℕ) (bytes : List ℕ) (records : List Record) (end : End) →
    EndsAs file limit bytes records end → Rising (keys_of records)
ends_rise file limit bytes records Clean k = k.begins.rising
ends_rise file limit bytes records (Fault fault) k = faults_rise file limit bytes records fault k

-- The keys of the records that it gave rise, whatever the source is.
pub given_rise : (a b : Reading) → IsLaterReading a b → a.progress ≡ Open → HasEnded b.progress →
    Rising (keys_of b.records)
given_rise a b later open_is ended = go b.progress refl ended
  where
    go : (progress : Progress) → b.progress ≡ progress → HasEnded progress →
        Rising (keys_of b.records)
    go Open e ended = absurd ended
    go (Ended end) e ended =
        let k = (comes_to a b end later open_is e).loaded in
        ends_rise a.file a.limit k.handed b.records end
        (subst (λ xs. EndsAs a.file a.limit k.handed xs end) (sym k.sent) k.ends)
    go Lost e ended = absurd (has_given a b Lost later open_is e)

-- ---- of any source, and a reader that is still open

no_records : (bytes : List ℕ) (limit : ℕ) → AreFirstGood bytes limit []
no_records bytes limit = record {
  rest = bytes;
  begins = begins_none bytes limit;
  prefix = λ good ending k. first_are_good bytes limit [] bytes good ending
      (begins_none bytes limit) k;
}

pub memory_is_no_read : (file : ℕ) → Fault faults.Memory ≡ Fault (faults.Read file) → ⊥
memory_is_no_read file e = cc

none_given : (file limit : ℕ) (source : SourceView) →
    ComesTo file limit source source [] (Fault faults.Memory)
none_given file limit source = record {
  loaded = record {
    handed = [];
    records = [];
    kept = λ _. refl;
    sent = refl;
    ends = no_records [] limit;
    whole = λ _ _. no_records source.left limit;
  };
  read = (λ e. absurd (memory_is_no_read file e), λ failed. absurd (failed refl));
  unfailed = λ _. refl;
  stays = record {
    honest = λ o. o;
    steady = λ o. o;
    never = λ _. refl;
  };
}

-- What a reader gave that is followed from its start on, and is open still, is what a loader sends
-- that is refused memory there: first good records.
pub open_comes_to : (file limit : ℕ) (source : SourceView) (b : Reading) →
    IsLaterReading (new_reading file limit source) b → b.progress ≡ Open →
    ComesTo file limit source b.source b.records (Fault faults.Memory)
open_comes_to file limit source b later open_is =
    of_first (new_reading file limit source) b (Fault faults.Memory) later
    (subst (HasGivenFirst b) open_is (later.gave_first (none_given file limit source)))

-- The keys of the records that it gave rise, however far it has come.
pub new_given_rise : (file limit : ℕ) (source : SourceView) (b : Reading) →
    IsLaterReading (new_reading file limit source) b → Rising (keys_of b.records)
new_given_rise file limit source b later = go b.progress refl
  where
    go : (progress : Progress) → b.progress ≡ progress → Rising (keys_of b.records)
    go Open e =
        let k = (open_comes_to file limit source b later e).loaded in
        ends_rise file limit k.handed b.records (Fault faults.Memory)
        (subst (λ xs. EndsAs file limit k.handed xs (Fault faults.Memory)) (sym k.sent) k.ends)
    go (Ended end) e = given_rise (new_reading file limit source) b later refl
        (subst HasEnded (sym e) tt)
    go Lost e = given_rise (new_reading file limit source) b later refl
        (subst HasEnded (sym e) tt)

-- ---- of a source that has a record file left

none_some : (flaw : Flaw) → Some flaw ≡ None → ⊥
none_some flaw e = cc

module _ (file limit : ℕ) (begun source : SourceView) (rs records : List Record)
    (h : HasRecords limit begun rs) where
  all_begin : Begins begun.left limit rs []
  all_begin = record {
    spelled = h.left ∙ sym (append-nil (flat_map record_spelling rs));
    lawful = h.lawful;
    rising = h.rising;
    few = h.few;
  }

  -- The records are the reading of the file, which ends clean.
  pub file_reading : Reads begun.left limit rs None
  file_reading = ends_clean begun.left limit rs all_begin

  no_flaw : {A : Type 0} (flaw : Flaw) → Reads begun.left limit records (Some flaw) → A
  no_flaw flaw k = absurd (none_some flaw (one_reading begun.left limit records rs (Some flaw) None k
      file_reading).1)

  -- What a failed read cut is a front.
  cut_front : (handed : List ℕ) → begun.left ≡ handed ++ source.left → IsReadTo handed limit records
      → IsPrefix records rs
  cut_front handed kept k = first_are_good begun.left limit records
      (k.reading.rest ++ source.left) rs None
      (begins_all begun.left handed source.left limit records k.reading.rest k.reading.begins kept)
      file_reading

  fault_gives : (fault : RunFault) (handed : List ℕ) → begun.left ≡ handed ++ source.left →
      FailsAs file limit handed records fault →
      (Fault fault ≢ Fault (faults.Read file) → FailsAs file limit begun.left records fault) →
      GivesRecords file rs records (Fault fault)
  fault_gives faults.Memory handed kept ends whole =
      inr (inr refl, (whole (λ e. cc)).prefix rs None file_reading)
  fault_gives (faults.Read f) handed kept ends whole =
      inr (inl (ap (λ n. Fault (faults.Read n)) ends.0), cut_front handed kept ends.1)
  fault_gives (faults.Truncated f place) handed kept ends whole =
      no_flaw flaws.Truncated (whole (λ e. cc)).2
  fault_gives (faults.KeyTooLong f place) handed kept ends whole =
      no_flaw flaws.KeyTooLong (whole (λ e. cc)).2
  fault_gives (faults.ValueTooLong f place) handed kept ends whole =
      no_flaw flaws.ValueTooLong (whole (λ e. cc)).2
  fault_gives (faults.OutOfOrder f place) handed kept ends whole =
      no_flaw flaws.OutOfOrder (whole (λ e. cc)).2
  fault_gives (faults.TooManyRecords f) handed kept ends whole =
      no_flaw flaws.TooManyRecords (whole (λ e. cc)).1
  fault_gives faults.Write handed kept ends whole = absurd ends
  fault_gives faults.TooTall handed kept ends whole = absurd ends
  fault_gives faults.NoThread handed kept ends whole = absurd ends
  fault_gives faults.Lost handed kept ends whole = absurd ends
  fault_gives faults.TooManyFiles handed kept ends whole = absurd ends

  end_gives : (end : End) (handed : List ℕ) → begun.left ≡ handed ++ source.left →
      EndsAs file limit handed records end →
      (end ≢ Fault (faults.Read file) → EndsAs file limit begun.left records end) →
      GivesRecords file rs records end
  end_gives Clean handed kept ends whole = inl (
    refl,
    (one_reading begun.left limit records rs None None (whole (λ e. cc)) file_reading).0,
  )
  end_gives (Fault fault) handed kept ends whole = fault_gives fault handed kept ends whole

  -- What a loader would have sent are all records, or first ones.
  pub loaded_gives : (end : End) →
      IsLoaded file limit begun.is_honest begun.left source.left [] records end →
      GivesRecords file rs records end
  loaded_gives end k = end_gives end k.handed (k.kept h.honest)
      (subst (λ xs. EndsAs file limit k.handed xs end) (sym k.sent) k.ends)
      (λ other. subst (λ xs. EndsAs file limit begun.left xs end) (sym k.sent)
      (k.whole h.honest other))

-- A reader that was open before and has ended gave all records of its file, or first ones and a
-- fault.
pub reader_gives : (a b : Reading) (rs : List Record) → HasRecords a.limit a.begun rs →
    IsLaterReading a b → a.progress ≡ Open → HasEnded b.progress →
    GivesRecords a.file rs b.records (end_given b.progress)
reader_gives a b rs h later open_is ended = go b.progress refl ended
  where
    go : (progress : Progress) → b.progress ≡ progress → HasEnded progress →
        GivesRecords a.file rs b.records (end_given progress)
    go Open e ended = absurd ended
    go (Ended end) e ended = loaded_gives a.file a.limit a.begun b.source rs b.records h end
        (comes_to a b end later open_is e).loaded
    go Lost e ended = absurd (has_given a b Lost later open_is e)

-- So does one that is followed from its start on, where what it gave since then is asked.
pub new_reader_gives : (file limit : ℕ) (source : SourceView) (b : Reading) (rs : List Record) →
    HasRecords limit source rs → IsLaterReading (new_reading file limit source) b →
    HasEnded b.progress →
    GivesRecords file rs (items_between [] b.records) (end_given b.progress)
new_reader_gives file limit source b rs h later ended =
    reader_gives (new_reading file limit source) b rs h later refl ended

-- One that is open still gave first ones of them.
pub open_gives_first : (file limit : ℕ) (source : SourceView) (b : Reading) (rs : List Record) →
    HasRecords limit source rs → IsLaterReading (new_reading file limit source) b →
    b.progress ≡ Open → IsPrefix (items_between [] b.records) rs
open_gives_first file limit source b rs h later open_is =
    let k = (open_comes_to file limit source b later open_is).loaded in
    subst (λ xs. IsPrefix xs rs) (sym k.sent)
    ((k.whole h.honest (memory_is_no_read file)).prefix rs None
    (file_reading file limit source b.source rs b.records h))

-- All records were given where the end is clean.
pub clean_gives_all : (file : ℕ) (rs records : List Record) (end : End) →
    GivesRecords file rs records end → end ≡ Clean → records ≡ rs
clean_gives_all file rs records end (inl all) e = all.1
clean_gives_all file rs records end (inr (inl read, front)) e =
    let same : Fault (faults.Read file) ≡ Clean = sym read ∙ e in cc
clean_gives_all file rs records end (inr (inr memory, front)) e =
    let same : Fault faults.Memory ≡ Clean = sym memory ∙ e in cc
