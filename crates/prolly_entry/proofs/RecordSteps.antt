-- Going through the records of bytes.
use Rattle.std.proofs.Common.{◌≡◌, ℕ, ◌+◌, ◌<◌, List, [], ◌∷◌, ◌++◌, length, drop, Some, None}
use Rattle.std.proofs.Common.{refl, sym, ap, ◌∙◌, subst, arith, length-append}
use Rattle.std.proofs.lemmas.List.{append-nil}
use Rattle.std.proofs.lemmas.List.Concat.{flat_map-append}
use Rattle.prolly_entry.specs.declared.next.Flaw.{Flaw}
use Rattle.prolly_entry.specs.declared.next.Flaw.TheVariants as flaws
use Rattle.prolly_entry.specs.declared.record_file.RecordFault.{RecordFault}
use Rattle.prolly_entry.specs.Keys.{Rising}
use Rattle.prolly_entry.specs.Pair.{Pair}
use Rattle.prolly_entry.specs.Record.{Record, keys_of}
use Rattle.prolly_entry.specs.Position.{Position, last_position}
use Rattle.prolly_entry.specs.Reading.{Begins, IsReading}
use Rattle.prolly_entry.specs.Overlay.{pairs_put, pairs_of_change, raw_overlay}
use Rattle.prolly_entry.specs.NextRecord.{IsNext, IsUndecided, IsFlawed}
use Rattle.prolly_entry.specs.RecordList.{ArePairsOf, HasFlawAt, IsFaultOf, record_fault}
use Rattle.prolly_entry.specs.lemmas.Overlays.{overlay_is}
use Rattle.prolly_entry.proofs.Endings.{begins_more, begins_none, last_more, ends_clean}
use Rattle.prolly_entry.proofs.Endings.{ends_flawed, ends_cut}

-- Some records are read: they begin the bytes, and the pairs are those that they put.
pub record IsUnderWay (bytes : List ℕ) (limit : ℕ) (rest : List ℕ) (count : ℕ) (position : Position)
    (pairs : List Pair) : Type 0 where
  pub good : List Record
  pub begins : Begins bytes limit good rest
  pub count_is : count ≡ length good
  pub position_is : position ≡ last_position good
  pub pairs_are : pairs ≡ pairs_put good

pub none_read : (bytes : List ℕ) (limit : ℕ) → IsUnderWay bytes limit bytes 0 None []
none_read bytes limit = record {
  good = [];
  begins = begins_none bytes limit;
  count_is = refl;
  position_is = refl;
  pairs_are = refl;
}

pub one_read : (bytes : List ℕ) (limit : ℕ) (rest : List ℕ) (count : ℕ) (position : Position)
    (pairs pairs' : List Pair) (r : Record) (len : ℕ) →
    IsUnderWay bytes limit rest count position pairs → IsNext limit count position rest r len →
    pairs' ≡ pairs ++ pairs_of_change r.key r.value →
    IsUnderWay bytes limit (drop len rest) (count + 1) (Some r.key) pairs'
one_read bytes limit rest count position pairs pairs' r len h k e = record {
  good = h.good ++ r ∷ [];
  begins = subst (λ (x : List ℕ). Begins bytes limit (h.good ++ r ∷ []) x)
      (append-nil (drop len rest))
      (begins_more bytes limit h.good rest rest [] r len h.begins (sym (append-nil rest)) next);
  count_is = let c = h.count_is in let n = length-append h.good (r ∷ []) in omega arith;
  position_is = sym (last_more h.good r);
  pairs_are = e ∙ (ap (λ (q : List Pair). q ++ pairs_of_change r.key r.value) h.pairs_are
      ∙ (ap (λ (q : List Pair). pairs_put h.good ++ q)
      (sym (append-nil (pairs_of_change r.key r.value)))
      ∙ sym (flat_map-append (λ (x : Record). pairs_of_change x.key x.value) h.good (r ∷ []))));
}
  where
    next : IsNext limit (length h.good) (last_position h.good) rest r len
    next = record {
      there = k.there;
      room = λ q. k.room (h.count_is ∙ q);
      rises = rw (← h.position_is) k.rises;
    }

-- One list is its own raw overlay.
alone : (good : List Record) → Rising (keys_of good) → raw_overlay (good ∷ []) ≡ good
alone good h = sym ((overlay_is (good ∷ []) (h, tt)).1 good
    (record { rising = h; is = λ key. refl }))

pub all_read : (bytes : List ℕ) (limit : ℕ) (rest : List ℕ) (count : ℕ) (position : Position)
    (pairs : List Pair) →
    IsUnderWay bytes limit rest count position pairs → rest ≡ [] → ArePairsOf bytes limit pairs
all_read bytes limit rest count position pairs h e = record {
  good = h.good;
  reading = ends_clean bytes limit h.good (subst (λ (x : List ℕ). Begins bytes limit h.good x) e
      h.begins);
  are = h.pairs_are ∙ sym (ap pairs_put (alone h.good h.begins.rising));
}

pub cut_inside : (bytes : List ℕ) (limit : ℕ) (rest : List ℕ) (count : ℕ) (position : Position)
    (pairs : List Pair) →
    IsUnderWay bytes limit rest count position pairs → IsUndecided limit count position rest →
    0 < length rest → HasFlawAt bytes limit count flaws.Truncated
cut_inside bytes limit rest count position pairs h k some = record {
  good = h.good;
  reading = ends_cut bytes limit h.good rest h.begins some (rw (← h.count_is, ← h.position_is) k);
  place_is = h.count_is;
}

pub refused : (bytes : List ℕ) (limit : ℕ) (rest : List ℕ) (count : ℕ) (position : Position)
    (pairs : List Pair) (flaw : Flaw) (fault : RecordFault) →
    IsUnderWay bytes limit rest count position pairs → IsFlawed limit count position rest flaw →
    fault ≡ record_fault flaw count → IsFaultOf bytes limit fault
refused bytes limit rest count position pairs flaw fault h k f =
    subst (λ x. IsFaultOf bytes limit x) (sym f) (go flaw k)
  where
    ends : (x : Flaw) → IsFlawed limit count position rest x → IsReading bytes limit h.good (Some x)
    ends x q = ends_flawed bytes limit h.good rest rest [] x h.begins (sym (append-nil rest))
        (rw (← h.count_is, ← h.position_is) q)

    go : (flaw : Flaw) → IsFlawed limit count position rest flaw →
        IsFaultOf bytes limit (record_fault flaw count)
    go flaws.Truncated q = record { good = h.good; reading = ends _ q; place_is = h.count_is }
    go flaws.KeyTooLong q = record { good = h.good; reading = ends _ q; place_is = h.count_is }
    go flaws.ValueTooLong q = record { good = h.good; reading = ends _ q; place_is = h.count_is }
    go flaws.OutOfOrder q = record { good = h.good; reading = ends _ q; place_is = h.count_is }
    go flaws.TooManyRecords q = record { good = h.good; reading = ends _ q }

-- The same, where what is left and the last key are known by equations.
pub goes_on : (bytes : List ℕ) (limit : ℕ) (rest rest' : List ℕ) (count : ℕ)
    (position position' : Position) (pairs pairs' : List Pair) (r : Record) (len : ℕ) →
    IsUnderWay bytes limit rest count position pairs → IsNext limit count position rest r len →
    pairs' ≡ pairs ++ pairs_of_change r.key r.value →
    rest' ≡ drop len rest → position' ≡ Some r.key →
    IsUnderWay bytes limit rest' (count + 1) position' pairs'
goes_on bytes limit rest rest' count position position' pairs pairs' r len h k e f g =
    subst (λ (x : List ℕ). IsUnderWay bytes limit x (count + 1) position' pairs') (sym f)
    (subst (λ (p : Position). IsUnderWay bytes limit (drop len rest) (count + 1) p pairs') (sym g)
    (one_read bytes limit rest count position pairs pairs' r len h k e))
