-- The ends of a loading.
use Rattle.std.proofs.Common.{◌≡◌, ℕ, ◌<◌, Bool, true, List, [], ◌∷◌, ◌++◌, length, Some, None, inl}
use Rattle.std.proofs.Common.{inr, refl, sym, ap, ◌∙◌, subst, arith}
use Rattle.std.proofs.lemmas.List.{append-nil}
use Rattle.prolly_entry.specs.declared.next.Flaw.{Flaw}
use Rattle.prolly_entry.specs.declared.next.Flaw.TheVariants as flaws
use Rattle.prolly_entry.specs.Position.{last_position}
use Rattle.prolly_entry.specs.Record.{Record}
use Rattle.prolly_entry.specs.Reading.{Begins, IsReading}
use Rattle.prolly_entry.specs.NextRecord.{IsUndecided, IsFlawed}
use Rattle.prolly_laws.specs.Readings.{ends_clean, ends_flawed, ends_cut, first_are_good}
use Rattle.prolly_laws.specs.Readings.{begins_all}
use Rattle.prolly_link.specs.declared.message.End.{End}
use Rattle.prolly_link.specs.declared.message.End.TheVariants.{Clean, Fault}
use Rattle.prolly_link.specs.declared.fault.RunFault.{RunFault}
use Rattle.prolly_link.specs.declared.fault.RunFault.TheVariants as faults
use Rattle.prolly_io.specs.ReadBuffer.{Held}
use Rattle.prolly_load.specs.Fault.{end_in, fault_of}
use Rattle.prolly_load.specs.Loaded.{IsReadTo, AreFirstGood, FailsAs, IsLoaded}
use Rattle.prolly_load.specs.Loading.{IsUnderWay}

-- ---- first records

first_good : (bytes : List ℕ) (limit : ℕ) (records : List Record) (rest : List ℕ) →
    Begins bytes limit records rest → AreFirstGood bytes limit records
first_good bytes limit records rest h = record {
  rest = rest;
  begins = h;
  prefix = λ good ending k. first_are_good bytes limit records rest good ending h k;
}

-- ---- the ends

module _ (file limit : ℕ) (honest : Bool) (count : ℕ) (buffered : Held) (bytes left : List ℕ)
    (before after : List Record) where
  -- Where memory is refused, some first good records were sent.
  pub memory_ends : IsUnderWay honest limit count buffered bytes left before after →
      IsLoaded file limit honest bytes left before after (Fault faults.Memory)
  memory_ends h = record {
    handed = h.handed;
    records = h.records;
    kept = h.kept;
    sent = h.sent;
    ends = first_good h.handed limit h.records buffered.unparsed h.begins;
    whole = λ o _. first_good bytes limit h.records (buffered.unparsed ++ left)
        (begins_all bytes h.handed left limit h.records buffered.unparsed h.begins (h.kept o));
  }

  -- A flaw is told by its fault.
  flaw_fails : (xs : List ℕ) (records : List Record) (flaw : Flaw) → count ≡ length records →
      IsReading xs limit records (Some flaw) →
      FailsAs file limit xs records (fault_of file count flaw)
  flaw_fails xs records flaws.Truncated e h = (refl, e, h)
  flaw_fails xs records flaws.KeyTooLong e h = (refl, e, h)
  flaw_fails xs records flaws.ValueTooLong e h = (refl, e, h)
  flaw_fails xs records flaws.OutOfOrder e h = (refl, e, h)
  flaw_fails xs records flaws.TooManyRecords e h = (refl, h)

  told_as : (told fault : RunFault) → told ≡ fault →
      IsLoaded file limit honest bytes left before after (Fault fault) →
      IsLoaded file limit honest bytes left before after (Fault told)
  told_as told fault e h = subst (λ x. IsLoaded file limit honest bytes left before after (Fault x))
      (sym e) h

  pub flaw_ends : (flaw : Flaw) (told : RunFault) →
      IsUnderWay honest limit count buffered bytes left before after →
      IsFlawed limit count buffered.kept buffered.unparsed flaw →
      told ≡ fault_of file count flaw →
      IsLoaded file limit honest bytes left before after (Fault told)
  flaw_ends flaw told h k e = told_as told (fault_of file count flaw) e (record {
    handed = h.handed;
    records = h.records;
    kept = h.kept;
    sent = h.sent;
    ends = flaw_fails h.handed h.records flaw h.count_is
        (ends_flawed h.handed limit h.records buffered.unparsed buffered.unparsed [] flaw h.begins
        (sym (append-nil buffered.unparsed)) flawed);
    whole = λ o _. flaw_fails bytes h.records flaw h.count_is
        (ends_flawed bytes limit h.records (buffered.unparsed ++ left) buffered.unparsed left flaw
        (begins_all bytes h.handed left limit h.records buffered.unparsed h.begins (h.kept o)) refl
        flawed);
  })
    where
      flawed : IsFlawed limit (length h.records) (last_position h.records) buffered.unparsed flaw
      flawed = rw (← h.count_is, ← h.position_is) k

  -- Where the source is over, the bytes that were handed out are all.
  all_handed : (h : IsUnderWay honest limit count buffered bytes left before after) →
      (honest ≡ true → left ≡ []) → honest ≡ true → h.handed ≡ bytes
  all_handed h over o = sym (h.kept o ∙ (ap (λ (x : List ℕ). h.handed ++ x) (over o) ∙
      append-nil h.handed))

  clean_ends : IsUnderWay honest limit count buffered bytes left before after →
      buffered.unparsed ≡ [] → (honest ≡ true → left ≡ []) →
      IsLoaded file limit honest bytes left before after Clean
  clean_ends h e over = record {
    handed = h.handed;
    records = h.records;
    kept = h.kept;
    sent = h.sent;
    ends = reading;
    whole = λ o _. subst (λ (x : List ℕ). IsReading x limit h.records None) (all_handed h over o)
        reading;
  }
    where
      reading : IsReading h.handed limit h.records None
      reading = ends_clean h.handed limit h.records
          (subst (λ (x : List ℕ). Begins h.handed limit h.records x) e h.begins)

  -- Where nothing is decided and some bytes are in unparsed, they are cut.
  cut_reading : (h : IsUnderWay honest limit count buffered bytes left before after) →
      IsUndecided limit count buffered.kept buffered.unparsed → 0 < length buffered.unparsed →
      IsReading h.handed limit h.records (Some flaws.Truncated)
  cut_reading h k some = ends_cut h.handed limit h.records buffered.unparsed h.begins some
      (rw (← h.count_is, ← h.position_is) k)

  cut_ends : IsUnderWay honest limit count buffered bytes left before after →
      IsUndecided limit count buffered.kept buffered.unparsed → 0 < length buffered.unparsed →
      (honest ≡ true → left ≡ []) →
      IsLoaded file limit honest bytes left before after (Fault (fault_of file count
      flaws.Truncated))
  cut_ends h k some over = record {
    handed = h.handed;
    records = h.records;
    kept = h.kept;
    sent = h.sent;
    ends = flaw_fails h.handed h.records flaws.Truncated h.count_is (cut_reading h k some);
    whole = λ o _. flaw_fails bytes h.records flaws.Truncated h.count_is
        (subst (λ (x : List ℕ). IsReading x limit h.records (Some flaws.Truncated))
        (all_handed h over o) (cut_reading h k some));
  }

  -- Where no more bytes come, the end is clean, or tells that the file is cut.
  pub over_ends : (told : End) → IsUnderWay honest limit count buffered bytes left before after →
      IsUndecided limit count buffered.kept buffered.unparsed → (honest ≡ true → left ≡ []) →
      told ≡ end_in file buffered.unparsed count →
      IsLoaded file limit honest bytes left before after told
  over_ends told h k over e = go buffered.unparsed refl
    where
      ended_as : (end : End) → told ≡ end →
          IsLoaded file limit honest bytes left before after end →
          IsLoaded file limit honest bytes left before after told
      ended_as end same = subst (λ x. IsLoaded file limit honest bytes left before after x)
          (sym same)

      go : (unparsed : List ℕ) → buffered.unparsed ≡ unparsed →
          IsLoaded file limit honest bytes left before after told
      go [] i = ended_as Clean (e ∙ ap (λ u. end_in file u count) i) (clean_ends h i over)
      go (b ∷ unparsed) i = ended_as (Fault (fault_of file count flaws.Truncated))
          (e ∙ ap (λ u. end_in file u count) i) (cut_ends h k (omega (arith, ap length i)) over)

  pub read_ends : IsUnderWay honest limit count buffered bytes left before after →
      IsUndecided limit count buffered.kept buffered.unparsed →
      IsLoaded file limit honest bytes left before after (Fault (faults.Read file))
  read_ends h k = record {
    handed = h.handed;
    records = h.records;
    kept = h.kept;
    sent = h.sent;
    ends = (refl, go buffered.unparsed refl);
    whole = λ o other. absurd (other refl);
  }
    where
      go : (unparsed : List ℕ) → buffered.unparsed ≡ unparsed → IsReadTo h.handed limit h.records
      go [] e = record {
        ending = None;
        reading = ends_clean h.handed limit h.records
            (subst (λ (x : List ℕ). Begins h.handed limit h.records x) e h.begins);
        is_cut = inl refl;
      }
      go (b ∷ unparsed) e = record {
        ending = Some flaws.Truncated;
        reading = cut_reading h k (omega (arith, ap length e));
        is_cut = inr refl;
      }
