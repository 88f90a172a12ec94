-- Each list of bytes has a reading.
use Rattle.std.proofs.Common.{◌≡◌, ◌≢◌, ℕ, zero, suc, ◌+◌, ◌-◌, ◌<◌, Bool, true, false, List, []}
use Rattle.std.proofs.Common.{◌∷◌, ◌++◌, length, take, drop, Some, None, refl, sym, subst, arith}
use Rattle.std.proofs.Common.{length-append}
use Rattle.std.proofs.lemmas.List.{append-nil, get_or-drop}
use Rattle.prolly_entry.specs.declared.front.FrontRecord.{FrontRecord}
use Rattle.prolly_entry.specs.declared.front.FrontRecord.TheVariants.{Put, Remove, More, KeyTooLong}
use Rattle.prolly_entry.specs.declared.front.FrontRecord.TheVariants.{ValueTooLong}
use Rattle.prolly_entry.specs.Record.{Record}
use Rattle.prolly_entry.specs.Position.{last_position, is_before}
use Rattle.prolly_entry.specs.declared.next.Flaw.{Flaw}
use Rattle.prolly_entry.specs.declared.next.Flaw.TheVariants as flaws
use Rattle.prolly_entry.specs.Reading.{Begins, HasReading, SomeReading}
use Rattle.prolly_entry.specs.Front.{front_of, put_at, removal_at, IsRecordAt, IsFrontRecord}
use Rattle.prolly_entry.specs.NextRecord.{IsFlawed}
use Rattle.prolly_entry.proofs.ByteLists.{AreBytes, AreBytes-from_All}
use Rattle.prolly_entry.proofs.FrontBytes.{cut_few, front_found}
use Rattle.prolly_entry.proofs.NextFlaws.{full_flaw, key_stays, value_stays, cut_flaw}
use Rattle.prolly_entry.proofs.Endings.{begins_more, begins_none, ends_clean, ends_flawed, ends_cut}
use Rattle.prolly_entry.proofs.Endings.{order_flawed}

faulty : (bytes : List ℕ) (limit : ℕ) (good : List Record) (rest : List ℕ) (fault : Flaw) →
    Begins bytes limit good rest →
    IsFlawed limit (length good) (last_position good) rest fault → HasReading bytes limit
faulty bytes limit good rest fault h k = record {
  good = good;
  ending = Some fault;
  reading = ends_flawed bytes limit good rest rest [] fault h (sym (append-nil rest)) k;
}

next : (bytes : List ℕ) (limit : ℕ) (good : List Record) (rest : List ℕ) (r : Record) (len : ℕ)
    (b : Bool) → is_before (last_position good) (Some r.key) ≡ b → 0 < length rest →
    length good ≢ limit → AreBytes rest →
    Begins bytes limit good rest → IsRecordAt rest r len →
    ((rest' : List ℕ) → AreBytes rest' → Begins bytes limit (good ++ r ∷ []) rest' →
    HasReading bytes limit) → HasReading bytes limit
next bytes limit good rest r len false e n d w h k again =
    faulty bytes limit good rest flaws.OutOfOrder h
    (order_flawed limit (length good) (last_position good) rest r len n k d e)
next bytes limit good rest r len true e n d w h k again =
    again (drop len rest) (λ i. rw get_or-drop (w (len + i)))
    (subst (λ (t : List ℕ). Begins bytes limit (good ++ r ∷ []) t) (append-nil (drop len rest))
    (begins_more bytes limit good rest rest [] r len h (sym (append-nil rest))
    (record { there = k; room = d; rises = e })))

by_front : (bytes : List ℕ) (limit : ℕ) (good : List Record) (rest : List ℕ) (f : FrontRecord) →
    f ≡ front_of rest → IsFrontRecord rest f → 0 < length rest → length good ≢ limit →
    AreBytes rest →
    Begins bytes limit good rest → ((r : Record) (rest' : List ℕ) → AreBytes rest' →
    Begins bytes limit (good ++ r ∷ []) rest' → HasReading bytes limit) → HasReading bytes limit
by_front bytes limit good rest More i k n d w h again = record {
  good = good;
  ending = Some flaws.Truncated;
  reading = ends_cut bytes limit good rest h n
      (record {
        few = cut_few rest k.1;
        cut = λ _. cut_flaw limit (length good) (last_position good)
            rest i d;
      });
}
by_front bytes limit good rest KeyTooLong i k n d w h again =
    faulty bytes limit good rest flaws.KeyTooLong h
    (record {
      some = n;
      is = λ more. key_stays limit (length good) (last_position good) rest
          more i d;
    })
by_front bytes limit good rest ValueTooLong i k n d w h again =
    faulty bytes limit good rest flaws.ValueTooLong h
    (record {
      some = n;
      is = λ more. value_stays limit (length good) (last_position good) rest
          more i d;
    })
by_front bytes limit good rest (Put a b c) i k n d w h again =
    next bytes limit good rest (put_at rest a b c) c
    (is_before (last_position good) (Some (take (a - 2) (drop 2 rest)))) refl n d w h k.0
    (again (put_at rest a b c))
by_front bytes limit good rest (Remove a b) i k n d w h again =
    next bytes limit good rest (removal_at rest a) b
    (is_before (last_position good) (Some (take (a - 2) (drop 2 rest)))) refl n d w h k.0
    (again (removal_at rest a))

reads_on : (fuel : ℕ) (bytes : List ℕ) (limit : ℕ) (good : List Record) (rest : List ℕ) →
    AreBytes rest → Begins bytes limit good rest → length good + fuel ≡ limit →
    HasReading bytes limit
reads_on fuel bytes limit good [] w h e = record {
  good = good;
  ending = None;
  reading = ends_clean bytes limit good h;
}
reads_on zero bytes limit good (x ∷ rest) w h e =
    faulty bytes limit good (x ∷ rest) flaws.TooManyRecords h
    (record {
      some = omega arith;
      is = λ more. full_flaw limit (length good) (last_position good)
          ((x ∷ rest) ++ more) (omega arith);
    })
reads_on (suc fuel) bytes limit good (x ∷ rest) w h e =
    by_front bytes limit good (x ∷ rest) (front_of (x ∷ rest)) refl
    (front_found (x ∷ rest) (front_of (x ∷ rest)) w refl) (omega arith) (λ q. omega arith) w h
    (λ r rest' w' h'. reads_on fuel bytes limit (good ++ r ∷ []) rest' w' h'
    (omega (arith, length-append good (r ∷ []))))

pub reading_is : SomeReading
reading_is bytes limit w = reads_on limit bytes limit [] bytes (AreBytes-from_All bytes w)
    (begins_none bytes limit) (omega arith)
