-- What the files of a build count for, by what the loaders sent of them.
use Rattle.std.proofs.Common.{◌≡◌, ◌≢◌, ◌⊎◌, ℕ, Bool, true, false, List, [], ◌∷◌, ◌++◌, All, map}
use Rattle.std.proofs.Common.{length, Option, Some, None, inl, inr, refl, ap, sym, subst, ◌∙◌}
use Rattle.std.specs.List.{flat_map}
use Rattle.std.proofs.lemmas.List.{append-nil}
use Rattle.prolly_entry.specs.Byte.{IsByte}
use Rattle.prolly_tree.specs.CutShort.{IsSentOf, AreSentOf}
use Rattle.prolly_tree.specs.Merge.{Input}
use Rattle.prolly_entry.specs.Reading.{IsReading}
use Rattle.prolly_entry.specs.Record.{Record}
use Rattle.prolly_entry.specs.Spelling.{record_spelling}
use Rattle.prolly_entry.specs.declared.next.Flaw.{Flaw}
use Rattle.prolly_entry.specs.declared.next.Flaw.TheVariants as flaws
use Rattle.prolly_laws.specs.Readings.{reading_is}
use Rattle.prolly_io.specs.Source.{SourceView}
use Rattle.prolly_link.specs.Views.{Batching, Whole}
use Rattle.prolly_link.specs.declared.message.End.{End}
use Rattle.prolly_link.specs.declared.message.End.TheVariants.{Clean, Fault}
use Rattle.prolly_link.specs.declared.fault.RunFault.{RunFault}
use Rattle.prolly_link.specs.declared.fault.RunFault.TheVariants as faults
use Rattle.prolly_load.specs.Loaded.{AreFirstGood, FailsAs, EndsAs}
use Rattle.prolly_merge.specs.Inputs.{input_of, fault_in}
use Rattle.prolly_build.specs.Mergers.{sent_input}
use Rattle.prolly_build.specs.RunResult.{AreLoaded}
use Rattle.prolly_build.specs.InputFaults.{IsReadingOf, IsFailureOf, CountFor}
use Rattle.prolly_build.specs.InputFaults.{ending_told}
use Rattle.prolly_build.specs.Workers.{IsLoadedFrom}
use Rattle.prolly_build.proofs.LoaderSteps.{of_all}
use Rattle.prolly_build.proofs.Loads.{comes_of, not_both, own_reading}

-- what an honest source has left are bytes, by the law of sources
abbrev pub LeftAreBytes : {S : Type 0} → (S → SourceView) → Type 0
LeftAreBytes {S} seen = (s : S) → (seen s).is_honest ≡ true → All IsByte (seen s).left

module _ {S : Type 0} (seen : S → SourceView) (limit : ℕ) where
  -- what a file counts for, and what its loader sent of that
  record Counts (file : ℕ) (s t : S) (sent : Input RunFault) : Type 0 where
    input : Input RunFault
    counts : IsReadingOf seen file limit s t input ⊎ IsFailureOf seen file limit s t input
    sent_of : IsSentOf faults.Memory input sent

  -- a reading that was sent whole
  whole : (file : ℕ) (s t : S) (records : List Record) (bytes : List ℕ) (ending : Option Flaw)
      (end : End) → ((seen s).is_honest ≡ true → bytes ≡ (seen s).left) →
      IsReading bytes limit records ending →
      fault_in end ≡ ending_told file (length records) ending →
      (seen t).failures ≡ (seen s).failures → Counts file s t (input_of records end)
  whole file s t records bytes ending end left h told unfailed = record {
    input = input_of records end;
    counts = inl (record {
      unfailed = unfailed;
      bytes = bytes;
      left = left;
      ending = ending;
      reading = h;
      told = told;
    });
    sent_of = inl refl;
  }

  -- a reading of which the first records were sent, until memory was refused
  cut : LeftAreBytes seen → (file : ℕ) (s t : S) (records : List Record) (bytes : List ℕ) →
      ((seen s).is_honest ≡ true → bytes ≡ (seen s).left) → AreFirstGood bytes limit records →
      (seen t).failures ≡ (seen s).failures →
      Counts file s t (input_of records (Fault faults.Memory))
  cut are_bytes file s t records bytes left first unfailed = go (seen s).is_honest refl
    where
      go : (honest : Bool) → (seen s).is_honest ≡ honest →
          Counts file s t (input_of records (Fault faults.Memory))
      go true is =
          let has = reading_is bytes limit
          (subst (λ (numbers : List ℕ). All IsByte numbers) (sym (left is)) (are_bytes s is)) in
          record {
            input = record {
              records = has.good;
              fault = ending_told file (length has.good) has.ending;
            };
            counts = inl (record {
              unfailed = unfailed;
              bytes = bytes;
              left = left;
              ending = has.ending;
              reading = has.reading;
              told = refl;
            });
            sent_of = inr (refl, first.prefix has.good has.ending has.reading);
          }
      go false is = record {
        input = record { records = records; fault = None };
        counts = inl (record {
          unfailed = unfailed;
          bytes = flat_map record_spelling records;
          left = λ honest. absurd (not_both (seen s).is_honest is honest);
          ending = None;
          reading = own_reading first.begins;
          told = refl;
        });
        sent_of = inr (refl, ([], sym (append-nil records)));
      }

  same_file : (f file place : ℕ) (records : List Record) (make : ℕ → ℕ → RunFault) → f ≡ file →
      place ≡ length records →
      ◌≡◌ {A = Option RunFault} (Some (make f place)) (Some (make file (length records)))
  same_file f file place records make e k = ap (λ (n : ℕ). Some (make n place)) e ∙
      ap (λ (n : ℕ). Some (make file n)) k

  one_fault : LeftAreBytes seen → (file : ℕ) (s t : S) (records : List Record)
      (handed bytes : List ℕ) (fault : RunFault) →
      ((seen s).is_honest ≡ true → (seen s).left ≡ handed ++ (seen t).left) →
      ((seen s).is_honest ≡ true → bytes ≡ (seen s).left) →
      FailsAs file limit handed records fault →
      (Fault fault ≢ Fault (faults.Read file) → FailsAs file limit bytes records fault) →
      (Fault fault ≡ Fault (faults.Read file) → (seen t).failures ≢ (seen s).failures) →
      (Fault fault ≢ Fault (faults.Read file) → (seen t).failures ≡ (seen s).failures) →
      Counts file s t (input_of records (Fault fault))
  one_fault law file s t records handed bytes faults.Memory kept left ends all failed unfailed =
      cut law file s t records bytes left (all (λ e. cc)) (unfailed (λ e. cc))
  one_fault law file s t records handed bytes (faults.Read f) kept left ends all failed unfailed =
      record {
        input = input_of records (Fault (faults.Read f));
        counts = inr (record {
          failed = failed (ap (λ (n : ℕ). Fault (faults.Read n)) ends.0);
          handed = handed;
          kept = kept;
          read = ends.1;
          told = ap (λ (n : ℕ). Some (faults.Read n)) ends.0;
        });
        sent_of = inl refl;
      }
  one_fault law file s t records handed bytes (faults.Truncated f place) kept left ends all failed
      unfailed =
      let h = all (λ e. cc) in whole file s t records bytes (Some flaws.Truncated)
      (Fault (faults.Truncated f place)) left h.2
      (same_file f file place records faults.Truncated h.0 h.1) (unfailed (λ e. cc))
  one_fault law file s t records handed bytes (faults.KeyTooLong f place) kept left ends all failed
      unfailed =
      let h = all (λ e. cc) in whole file s t records bytes (Some flaws.KeyTooLong)
      (Fault (faults.KeyTooLong f place)) left h.2
      (same_file f file place records faults.KeyTooLong h.0 h.1) (unfailed (λ e. cc))
  one_fault law file s t records handed bytes (faults.ValueTooLong f place) kept left ends all
      failed unfailed =
      let h = all (λ e. cc) in whole file s t records bytes (Some flaws.ValueTooLong)
      (Fault (faults.ValueTooLong f place)) left h.2
      (same_file f file place records faults.ValueTooLong h.0 h.1) (unfailed (λ e. cc))
  one_fault law file s t records handed bytes (faults.OutOfOrder f place) kept left ends all failed
      unfailed =
      let h = all (λ e. cc) in whole file s t records bytes (Some flaws.OutOfOrder)
      (Fault (faults.OutOfOrder f place)) left h.2
      (same_file f file place records faults.OutOfOrder h.0 h.1) (unfailed (λ e. cc))
  one_fault law file s t records handed bytes (faults.TooManyRecords f) kept left ends all failed
      unfailed =
      let h = all (λ e. cc) in whole file s t records bytes (Some flaws.TooManyRecords)
      (Fault (faults.TooManyRecords f)) left h.1
      (ap (λ (n : ℕ). Some (faults.TooManyRecords n)) h.0) (unfailed (λ e. cc))
  one_fault law file s t records handed bytes faults.Write kept left ends all failed unfailed =
      absurd ends
  one_fault law file s t records handed bytes faults.TooTall kept left ends all failed unfailed =
      absurd ends
  one_fault law file s t records handed bytes faults.NoThread kept left ends all failed unfailed =
      absurd ends
  one_fault law file s t records handed bytes faults.Lost kept left ends all failed unfailed =
      absurd ends
  one_fault law file s t records handed bytes faults.TooManyFiles kept left ends all failed
      unfailed = absurd ends

  one_end : LeftAreBytes seen → (file : ℕ) (s t : S) (records : List Record)
      (handed bytes : List ℕ) (end : End) →
      ((seen s).is_honest ≡ true → (seen s).left ≡ handed ++ (seen t).left) →
      ((seen s).is_honest ≡ true → bytes ≡ (seen s).left) →
      EndsAs file limit handed records end →
      (end ≢ Fault (faults.Read file) → EndsAs file limit bytes records end) →
      (end ≡ Fault (faults.Read file) → (seen t).failures ≢ (seen s).failures) →
      (end ≢ Fault (faults.Read file) → (seen t).failures ≡ (seen s).failures) →
      Counts file s t (input_of records end)
  one_end law file s t records handed bytes Clean kept left ends all failed unfailed =
      whole file s t records bytes None Clean left (all (λ e. cc)) refl (unfailed (λ e. cc))
  one_end law file s t records handed bytes (Fault fault) kept left ends all failed unfailed =
      one_fault law file s t records handed bytes fault kept left ends all failed unfailed

  one_counts : LeftAreBytes seen → (file : ℕ) (s : S) (o : Batching Record) (t : S)
      (c : Whole Record) → IsLoadedFrom seen file limit s o.link t c →
      Counts file s t (sent_input c)
  one_counts law file s o t c h =
      let comes = comes_of seen limit file s o t c h in
      one_end law file s t c.items h.loaded.handed comes.bytes c.end h.loaded.kept comes.left
      (subst (λ (rs : List Record). EndsAs file limit h.loaded.handed rs c.end) (sym h.loaded.sent)
      h.loaded.ends) comes.ends h.read.0 h.unfailed

  -- ---- all files

  pub record AllCounts (file : ℕ) (ss ts : List S) (sent : List (Input RunFault)) : Type 0 where
    pub inputs : List (Input RunFault)
    pub count_for : CountFor seen file limit ss ts inputs
    pub sent_of : AreSentOf faults.Memory inputs sent

  pub all_count : LeftAreBytes seen → (file : ℕ) (ss : List S) (os : List (Batching Record))
      (ts : List S) (cs : List (Whole Record)) →
      AreLoaded seen limit file ss os ts cs → AllCounts file ss ts (map sent_input cs)
  all_count bytes = of_all seen limit
      (λ file ss _ ts cs. AllCounts file ss ts (map sent_input cs))
      (λ _. record { inputs = []; count_for = tt; sent_of = tt })
      (λ file s o t c _ _ _ _ h rest.
      let one = one_counts bytes file s o t c h in
      record {
        inputs = one.input ∷ rest.inputs;
        count_for = (one.counts, rest.count_for);
        sent_of = (one.sent_of, rest.sent_of);
      })
