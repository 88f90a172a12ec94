-- A survey under way, and the ends of one.
use Rattle.std.proofs.Common.{◌≡◌, ℕ, ◌+◌, ◌*◌, ◌≤◌, Bool, true, List, [], ◌∷◌, ◌++◌, length, drop}
use Rattle.std.proofs.Common.{Option, Some, None, IfSome, option_map, refl, sym, ap, ◌∙◌, subst}
use Rattle.std.proofs.Common.{arith, ◌⊎◌, inl, inr}
use Rattle.std.proofs.lemmas.List.{append-nil}
use Rattle.std.proofs.Math.Seq.{drop-append_seam}
use Rattle.std.specs.List.{flat_map}
use Rattle.prolly_entry.specs.declared.next.Flaw.{Flaw}
use Rattle.prolly_entry.specs.declared.next.Flaw.TheVariants.{Truncated}
use Rattle.prolly_entry.specs.NextRecord.{IsUndecided, IsFlawed}
use Rattle.prolly_entry.specs.Position.{last_position}
use Rattle.prolly_entry.specs.Reading.{Begins, IsReading}
use Rattle.prolly_entry.specs.Record.{Record}
use Rattle.prolly_entry.specs.Spelling.{record_spelling}
use Rattle.prolly_laws.specs.Readings.{begins_all, ends_clean, ends_flawed, ends_cut}
use Rattle.prolly_load.specs.declared.tally.FlawedRecord.{FlawedRecord}
use Rattle.prolly_load.specs.declared.tally.Survey.{Survey}
use Rattle.prolly_load.specs.declared.tally.Tally.{Tally}
use Rattle.prolly_io.specs.ReadBuffer.{Held, Gains, GainsNothing}
use Rattle.prolly_load.specs.Loaded.{ShowsNoFlaw}
use Rattle.prolly_load.specs.Skipped.{PassesRecord}
use Rattle.prolly_load.specs.Survey.{IsSurvey, key_bytes, told_key}
use Rattle.prolly_load.specs.Tally.{HasToldKey, Tells, cut_in}
use Rattle.prolly_load.proofs.Tallies.{IsTallyOf, Counts, one_counted, bytes_bound, record_bound}
use Rattle.prolly_load.proofs.Tallies.{removals_bound}
use Rattle.prolly_load.proofs.ToldKeys.{has_told_key, told_stays}
use Rattle.prolly_load.specs.Loading.{IsUnderWay}
use Rattle.prolly_load.proofs.UnderWay.{none_sent, one_sent, more_read, nothing_read}

-- Some records are passed as if they were sent, and the tally is theirs.
pub record IsSurveying (honest : Bool) (limit : ℕ) (tally : Tally) (buffered : Held)
    (bytes left : List ℕ) : Type 0 where
  pub good : List Record
  pub under_way : IsUnderWay honest limit tally.records buffered bytes left [] good
  pub tally_is : IsTallyOf good tally

-- The tally of no records.
abbrev pub empty_tally : Tally
empty_tally = record { records = 0; removals = 0; bytes = 0; first_key = None }

pub none_passed : (honest : Bool) (limit : ℕ) (buffered : Held) (bytes : List ℕ) →
    buffered.kept ≡ None → buffered.unparsed ≡ [] →
    IsSurveying honest limit empty_tally buffered bytes bytes
none_passed honest limit buffered bytes e f = record {
  good = [];
  under_way = none_sent honest limit buffered bytes [] e f;
  tally_is = record {
    records_are = refl;
    removals_are = refl;
    bytes_are = refl;
    first_is = refl;
  };
}

pub one_passed : (honest : Bool) (limit len : ℕ) (removes : Bool) (tally tally' : Tally)
    (old new : Held) (bytes left : List ℕ) →
    IsSurveying honest limit tally old bytes left →
    PassesRecord limit tally.records old new removes len →
    Counts removes len new.kept tally tally' →
    IsSurveying honest limit tally' new bytes left
one_passed honest limit len removes tally tally' old new bytes left h k c = record {
  good = h.good ++ k.passed ∷ [];
  under_way = subst (λ n. IsUnderWay honest limit n new bytes left [] (h.good ++ k.passed ∷ []))
      (sym c.records)
      (one_sent honest limit tally.records old new bytes left [] h.good (h.good ++ k.passed ∷ [])
      k.passed h.under_way k.taken refl);
  tally_is = one_counted h.good k.passed removes len new.kept tally tally' h.tally_is c
      k.removes_is k.len_is k.taken.last_key;
}

pub more_came : (honest honest' : Bool) (limit n : ℕ) (tally : Tally)
    (buffered old new : Held) (bytes left left' : List ℕ) →
    IsSurveying honest limit tally buffered bytes left → old ≡ buffered →
    Gains honest' left left' old.unparsed new.unparsed n → new.kept ≡ old.kept →
    (honest ≡ true → honest' ≡ true) → IsSurveying honest limit tally new bytes left'
more_came honest honest' limit n tally buffered old new bytes left left' h same k e still =
    record {
      good = h.good;
      under_way = more_read honest honest' limit tally.records n buffered old new bytes left left'
          [] h.good h.under_way same k e still;
      tally_is = h.tally_is;
    }

-- The survey stands where it was, where a read brought nothing.
pub nothing_came : (honest honest' : Bool) (limit : ℕ) (tally : Tally)
    (buffered old new : Held) (bytes left left' : List ℕ) →
    IsSurveying honest limit tally buffered bytes left → old ≡ buffered →
    GainsNothing honest' left left' old.unparsed new.unparsed → new.kept ≡ old.kept →
    (honest ≡ true → honest' ≡ true) → IsSurveying honest limit tally new bytes left'
nothing_came honest honest' limit tally buffered old new bytes left left' h same k e still =
    record {
      good = h.good;
      under_way = nothing_read honest honest' limit tally.records buffered old new bytes left left'
          [] h.good h.under_way same k e still;
      tally_is = h.tally_is;
    }

-- One record more can be counted.
pub record HasRoom (limit len : ℕ) (tally : Tally) : Type 0 where
  pub records : tally.records + 1 ≤ limit
  pub removals : tally.removals ≤ tally.records
  pub bytes : tally.bytes + len ≤ (tally.records + 1) * 66566

-- No key is told of cut bytes.
cut_has_key : (unparsed : List ℕ) → IfSome (cut_in unparsed) (λ f. HasToldKey f unparsed)
cut_has_key [] = tt
cut_has_key (b ∷ unparsed) = tt

-- Where no more bytes come, there is no flaw, or they are cut.
clean_or_cut : (unparsed : List ℕ) → (cut_in unparsed ≡ None) ⊎ (cut_in unparsed ≡ Some Truncated)
clean_or_cut [] = inl refl
clean_or_cut (b ∷ unparsed) = inr refl

module _ (honest : Bool) (limit : ℕ) (tally : Tally) (buffered : Held) (bytes left : List ℕ)
  where
    -- The records that were passed begin the bytes that were handed out.
    begun : (h : IsSurveying honest limit tally buffered bytes left) →
        Begins h.under_way.handed limit h.good buffered.unparsed
    begun h = subst (λ (rs : List Record). Begins h.under_way.handed limit rs buffered.unparsed)
        (sym h.under_way.sent) h.under_way.begins

    -- So they begin all bytes.
    all_begun : (h : IsSurveying honest limit tally buffered bytes left) → honest ≡ true →
        Begins bytes limit h.good (buffered.unparsed ++ left)
    all_begun h o = begins_all bytes h.under_way.handed left limit h.good buffered.unparsed
        (begun h) (h.under_way.kept o)

    position_is : (h : IsSurveying honest limit tally buffered bytes left) →
        buffered.kept ≡ last_position h.good
    position_is h = h.under_way.position_is ∙ ap last_position (sym h.under_way.sent)

    pub has_room : (new : Held) (removes : Bool) (len : ℕ) →
        IsSurveying honest limit tally buffered bytes left →
        PassesRecord limit tally.records buffered new removes len → HasRoom limit len tally
    has_room new removes len h k =
        let counted = h.tally_is in
        let begins = begun h in
        let room = k.taken.next.room in
        let few : length h.good ≤ limit = begins.few in record {
          records = omega (arith, counted.records_are, room);
          removals = omega (
            arith,
            counted.records_are,
            counted.removals_are,
            removals_bound h.good,
          );
          bytes = omega (
            arith,
            counted.records_are,
            counted.bytes_are,
            bytes_bound h.good begins.lawful,
            record_bound k.passed k.taken.next.there.lawful,
            k.len_is,
          );
        }

    key_right : (flawed : Option FlawedRecord) (flaw : Option Flaw) (unparsed rest : List ℕ) →
        option_map (λ f. f.flaw) flawed ≡ flaw → IfSome flaw (λ f. HasToldKey f unparsed) →
        rest ≡ unparsed ++ left → IfSome flawed (λ f. key_bytes f.key ≡ told_key f.flaw unparsed) →
        IfSome flawed (λ f. key_bytes f.key ≡ told_key f.flaw rest)
    key_right None flaw unparsed rest e has is h = tt
    key_right (Some f) flaw unparsed rest e has is h =
        h ∙ sym (ap (told_key f.flaw) is ∙ told_stays f.flaw unparsed left
        (subst (λ x. IfSome x (λ g. HasToldKey g unparsed)) (sym e) has))

    -- What is told is right, where the flaw is that of the reading.
    told_right : (flaw : Option Flaw) (survey : Survey)
        (h : IsSurveying honest limit tally buffered bytes left) → honest ≡ true →
        IsReading bytes limit h.good flaw → IfSome flaw (λ f. HasToldKey f buffered.unparsed) →
        Tells tally buffered flaw survey → IsSurvey bytes limit survey
    told_right flaw survey h o reading has k =
        let spelled = (all_begun h o).spelled in
        let bytes_are : survey.bytes ≡ length (flat_map record_spelling h.good) =
        k.bytes ∙ h.tally_is.bytes_are in record {
          good = h.good;
          reading = subst (λ (f : Option Flaw). IsReading bytes limit h.good f) (sym k.flaw_is)
              reading;
          records_are = k.records ∙ h.tally_is.records_are;
          removals_are = k.removals ∙ h.tally_is.removals_are;
          bytes_are = bytes_are;
          first_is = ap key_bytes k.first_key ∙ h.tally_is.first_is;
          last_is = k.last_key ∙ position_is h;
          key_is = key_right survey.flawed flaw buffered.unparsed (drop survey.bytes bytes)
              k.flaw_is has
              (ap (λ n. drop n bytes) bytes_are
              ∙ (ap (drop (length (flat_map record_spelling h.good))) spelled
              ∙ drop-append_seam (flat_map record_spelling h.good) (buffered.unparsed ++ left)))
              k.key_is;
        }

    pub flaw_told : (flaw : Flaw) (survey : Survey) →
        IsSurveying honest limit tally buffered bytes left →
        IsFlawed limit tally.records buffered.kept buffered.unparsed flaw →
        Tells tally buffered (Some flaw) survey → honest ≡ true → IsSurvey bytes limit survey
    flaw_told flaw survey h k tells o =
        told_right (Some flaw) survey h o
        (ends_flawed bytes limit h.good (buffered.unparsed ++ left) buffered.unparsed left flaw
        (all_begun h o) refl (rw (← h.tally_is.records_are, ← position_is h) k))
        (has_told_key limit tally.records buffered.kept buffered.unparsed flaw k) tells

    -- Where no more bytes come and nothing is decided, the flaw is that the bytes are cut.
    cut_reading : (xs : List ℕ) (good : List Record) (unparsed : List ℕ) →
        Begins xs limit good unparsed →
        IsUndecided limit (length good) (last_position good) unparsed →
        IsReading xs limit good (cut_in unparsed)
    cut_reading xs good [] h k = ends_clean xs limit good h
    cut_reading xs good (b ∷ unparsed) h k = ends_cut xs limit good (b ∷ unparsed) h (omega arith) k

    pub end_told : (survey : Survey) → IsSurveying honest limit tally buffered bytes left →
        IsUndecided limit tally.records buffered.kept buffered.unparsed →
        (honest ≡ true → left ≡ []) → Tells tally buffered (cut_in buffered.unparsed) survey →
        honest ≡ true → IsSurvey bytes limit survey
    end_told survey h k over tells o =
        told_right (cut_in buffered.unparsed) survey h o
        (cut_reading bytes h.good buffered.unparsed
        (subst (λ (xs : List ℕ). Begins bytes limit h.good xs)
        (ap (λ (xs : List ℕ). buffered.unparsed ++ xs) (over o) ∙ append-nil buffered.unparsed)
        (all_begun h o))
        (rw (← h.tally_is.records_are, ← position_is h) k))
        (cut_has_key buffered.unparsed) tells

    -- Where nothing is decided, the bytes that were handed out show no flaw.
    pub no_flaw_shown : IsSurveying honest limit tally buffered bytes left →
        IsUndecided limit tally.records buffered.kept buffered.unparsed → honest ≡ true →
        ShowsNoFlaw limit bytes left
    no_flaw_shown h k o = record {
      handed = h.under_way.handed;
      records = h.good;
      kept = h.under_way.kept o;
      read_to = record {
        ending = cut_in buffered.unparsed;
        reading = cut_reading h.under_way.handed h.good buffered.unparsed (begun h)
            (rw (← h.tally_is.records_are, ← position_is h) k);
        is_cut = clean_or_cut buffered.unparsed;
      };
    }
