-- A loading under way: the records that were sent, the unparsed bytes and those that the source has
-- left.
use Rattle.std.proofs.Common.{◌≡◌, ℕ, ◌+◌, ◌≤◌, Bool, true, List, [], ◌∷◌, ◌++◌, length, drop, None}
use Rattle.std.proofs.Common.{refl, sym, ap, ◌∙◌, subst, arith, append_assoc, length-append}
use Rattle.std.proofs.lemmas.List.{append-nil}
use Rattle.std.specs.List.{flat_map}
use Rattle.prolly_entry.specs.declared.next.Flaw.{Flaw}
use Rattle.prolly_entry.specs.Position.{last_position}
use Rattle.prolly_entry.specs.Record.{Record}
use Rattle.prolly_entry.specs.Reading.{Begins}
use Rattle.prolly_entry.specs.Spelling.{record_spelling}
use Rattle.prolly_entry.specs.NextRecord.{IsNext, IsUndecided, IsFlawed}
use Rattle.prolly_laws.specs.Readings.{begins_more, begins_none, last_more}
use Rattle.prolly_io.specs.ReadBuffer.{Held, Gains, GainsNothing}
use Rattle.prolly_load.specs.Loading.{IsUnderWay}
use Rattle.prolly_load.specs.declared.loader.Taken.{Taken}
use Rattle.prolly_load.specs.declared.loader.Taken.TheVariants as takes
use Rattle.prolly_load.specs.Taken.{TakesRecord, TakesNext}

pub none_sent : (honest : Bool) (limit : ℕ) (buffered : Held) (bytes : List ℕ)
    (before : List Record) → buffered.kept ≡ None → buffered.unparsed ≡ [] →
    IsUnderWay honest limit 0 buffered bytes bytes before before
none_sent honest limit buffered bytes before e f = record {
  handed = [];
  records = [];
  kept = λ _. refl;
  sent = sym (append-nil before);
  begins = subst (λ (x : List ℕ). Begins [] limit [] x) (sym f) (begins_none [] limit);
  count_is = refl;
  position_is = e;
}

pub one_sent : (honest : Bool) (limit count : ℕ) (old new : Held) (bytes left : List ℕ)
    (before after after' : List Record) (r : Record) →
    IsUnderWay honest limit count old bytes left before after → TakesRecord limit count old new r →
    after' ≡ after ++ r ∷ [] →
    IsUnderWay honest limit (count + 1) new bytes left before after'
one_sent honest limit count old new bytes left before after after' r h k e = record {
  handed = h.handed;
  records = h.records ++ r ∷ [];
  kept = h.kept;
  sent = e ∙ (ap (λ (q : List Record). q ++ r ∷ []) h.sent ∙
      append_assoc before h.records (r ∷ []));
  begins = subst (λ (x : List ℕ). Begins h.handed limit (h.records ++ r ∷ []) x)
      (append-nil (drop k.len old.unparsed) ∙ sym k.unparsed)
      (begins_more h.handed limit h.records old.unparsed old.unparsed [] r k.len h.begins
      (sym (append-nil old.unparsed)) next);
  count_is = let c = h.count_is in let n = length-append h.records (r ∷ []) in omega arith;
  position_is = k.last_key ∙ sym (last_more h.records r);
}
  where
    next : IsNext limit (length h.records) (last_position h.records) old.unparsed r k.len
    next = record {
      there = k.next.there;
      room = λ q. k.next.room (h.count_is ∙ q);
      rises = rw (← h.position_is) k.next.rises;
    }

pub more_read : (honest honest' : Bool) (limit count n : ℕ) (buffered old new : Held)
    (bytes left left' : List ℕ) (before after : List Record) →
    IsUnderWay honest limit count buffered bytes left before after → old ≡ buffered →
    Gains honest' left left' old.unparsed new.unparsed n → new.kept ≡ old.kept →
    (honest ≡ true → honest' ≡ true) → IsUnderWay honest limit count new bytes left' before after
more_read honest honest' limit count n buffered old new bytes left left' before after h same k e
    still = record {
      handed = h.handed ++ k.given;
      records = h.records;
      kept = λ o. h.kept o ∙ (ap (λ (x : List ℕ). h.handed ++ x) (k.first (still o)) ∙
          sym (append_assoc h.handed k.given left'));
      sent = h.sent;
      begins = record {
        spelled = ap (λ (x : List ℕ). x ++ k.given) h.begins.spelled
            ∙ (append_assoc (flat_map record_spelling h.records) buffered.unparsed k.given
            ∙ ap (λ (x : List ℕ). flat_map record_spelling h.records ++ x)
            (sym (k.behind ∙ ap (λ (x : Held). x.unparsed ++ k.given) same)));
        lawful = h.begins.lawful;
        rising = h.begins.rising;
        few = h.begins.few;
      };
      count_is = h.count_is;
      position_is = e ∙ (ap (λ (x : Held). x.kept) same ∙ h.position_is);
    }

pub nothing_read : (honest honest' : Bool) (limit count : ℕ) (buffered old new : Held)
    (bytes left left' : List ℕ) (before after : List Record) →
    IsUnderWay honest limit count buffered bytes left before after → old ≡ buffered →
    GainsNothing honest' left left' old.unparsed new.unparsed → new.kept ≡ old.kept →
    (honest ≡ true → honest' ≡ true) → IsUnderWay honest limit count new bytes left' before after
nothing_read honest honest' limit count buffered old new bytes left left' before after h same k e
    still = record {
      handed = h.handed;
      records = h.records;
      kept = λ o. h.kept o ∙ ap (λ (x : List ℕ). h.handed ++ x) (sym (k.kept (still o)));
      sent = h.sent;
      begins = subst (λ (x : List ℕ). Begins h.handed limit h.records x)
          (sym (k.same ∙ ap (λ (x : Held). x.unparsed) same)) h.begins;
      count_is = h.count_is;
      position_is = e ∙ (ap (λ (x : Held). x.kept) same ∙ h.position_is);
    }

-- The records that were sent are within the limit.
pub within : (honest : Bool) (limit count : ℕ) (buffered : Held) (bytes left : List ℕ)
    (before after : List Record) →
    IsUnderWay honest limit count buffered bytes left before after → count ≤ limit
within honest limit count buffered bytes left before after h = omega (
  arith,
  h.count_is,
  h.begins.few,
)

-- ---- what was taken

pub record_taken : (limit count : ℕ) (old new : Held) (taken : Taken) (r : Record) →
    TakesNext limit count old new taken → taken ≡ takes.Record r →
    TakesRecord limit count old new r
record_taken limit count old new taken r h e = subst (TakesNext limit count old new) e h

pub flaw_taken : (limit count : ℕ) (old new : Held) (taken : Taken) (flaw : Flaw) →
    TakesNext limit count old new taken → taken ≡ takes.Flawed flaw →
    IsFlawed limit count old.kept old.unparsed flaw
flaw_taken limit count old new taken flaw h e = let is = subst (TakesNext limit count old new) e h in
    is.0

-- Nothing was taken, so nothing is decided, and the buffer is as it was.
pub record TakesNothing (limit count : ℕ) (old new : Held) : Type 0 where
  pub undecided : IsUndecided limit count old.kept old.unparsed
  pub same : new ≡ old

pub nothing_taken : (limit count : ℕ) (old new : Held) (taken : Taken) →
    TakesNext limit count old new taken → taken ≡ takes.Nothing →
    TakesNothing limit count old new
nothing_taken limit count old new taken h e = let is = subst (TakesNext limit count old new) e h in
    record { undecided = is.0; same = is.1 }

-- Where a read brings nothing, nothing is decided still.
pub still_undecided : (limit count : ℕ) (buffered old new : Held) →
    TakesNothing limit count buffered old →
    new.kept ≡ old.kept → new.unparsed ≡ old.unparsed →
    IsUndecided limit count new.kept new.unparsed
still_undecided limit count buffered old new h e f =
    rw (e, f) (subst (λ (x : Held). IsUndecided limit count x.kept x.unparsed) (sym h.same)
    h.undecided)
