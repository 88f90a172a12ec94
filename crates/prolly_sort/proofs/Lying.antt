-- Where records lie among bytes.
use Rattle.std.proofs.Common.{◌↔◌, ◌≡◌, ℕ, ◌+◌, ◌-◌, ◌*◌, ◌≤◌, Bool, true, cond, List, [], ◌∷◌}
use Rattle.std.proofs.Common.{◌++◌, length, take, drop, slice_range, Option, Some, None, is_some}
use Rattle.std.proofs.Common.{refl, sym, ap, ◌∙◌, subst, arith, All, length-append, length-drop}
use Rattle.std.proofs.Common.{append-nil, if◌then◌else◌}
use Rattle.std.proofs.Math.Seq.{drop-append-add, drop-append_seam}
use Rattle.std.proofs.lemmas.Bool.{le-ltb}
use Rattle.std.proofs.lemmas.List.{drop-append-le, drop-drop, map_push, take-append-le, take_all}
use Rattle.std.proofs.lemmas.List.Concat.{flat_map-append}
use Rattle.std.proofs.lemmas.List.Elements.{All-push, All-weaker, recursion_from_All}
use Rattle.std.specs.List.{AllByRecursion}
use Rattle.prolly_entry.specs.Keys.{Rising}
use Rattle.prolly_entry.specs.Record.{Record, IsRecord, keys_of}
use Rattle.prolly_entry.specs.Spelling.{change_spelling, record_spelling}
use Rattle.prolly_entry.specs.lemmas.Spellings.{after_two, key_there, record_size, value_size}
use Rattle.prolly_sort.specs.declared.place.Place.{Place}
use Rattle.prolly_sort.specs.Overlaid.{written}
use Rattle.prolly_sort.specs.Place.{StandsIn, key_in, part_in, place_of, record_in}
use Rattle.prolly_sort.specs.Place.{records_in, value_in}
use Rattle.prolly_sort.specs.Run.{IsHeld}
use Rattle.prolly_sort.proofs.Numbering.{numbered_more}

same_record : (a b : List ℕ) (v w : Option (List ℕ)) → a ≡ b → v ≡ w →
    ◌≡◌ {A = Record} (record { key = a; value = v }) (record { key = b; value = w })
same_record a b v w e f = cc

-- ---- parts of bytes

part_there : (bytes : List ℕ) (from to : ℕ) → to ≤ length bytes →
    part_in bytes from to ≡ slice_range bytes from to
part_there bytes from to h = ap (λ b. cond b [] (slice_range bytes from to))
    (le-ltb (length bytes) to h)

-- More bytes leave a part of those in front.
range_more : (bytes more : List ℕ) (from to : ℕ) → from ≤ to → to ≤ length bytes →
    slice_range (bytes ++ more) from to ≡ slice_range bytes from to
range_more bytes more from to h k = ap (take (to - from))
    (drop-append-le from bytes more (omega arith)) ∙ take-append-le (to - from) (drop from bytes) more
    (omega (arith, length-drop from bytes))

-- A part behind bytes is one of what follows them.
range_behind : (bytes more : List ℕ) (from count to : ℕ) → to ≡ length bytes + from + count →
    slice_range (bytes ++ more) (length bytes + from) to ≡ take count (drop from more)
range_behind bytes more from count to e =
    let n : to - (length bytes + from) ≡ count = omega (arith, e) in
    ap (λ k. take k (drop (length bytes + from) (bytes ++ more))) n ∙
    ap (take count) (drop-append-add bytes more from)

-- ---- more bytes behind those of records

key_more : (bytes more : List ℕ) (p : Place) → StandsIn bytes p →
    key_in (bytes ++ more) p ≡ key_in bytes p
key_more bytes more p h =
    part_there (bytes ++ more) (p.start + 2) (p.start + 2 + p.key_len)
    (omega (arith, h.ordered, h.within, length-append bytes more)) ∙
    range_more bytes more (p.start + 2) (p.start + 2 + p.key_len) (omega arith)
    (omega (arith, h.ordered, h.within)) ∙
    sym (part_there bytes (p.start + 2) (p.start + 2 + p.key_len) (omega (arith, h.ordered, h.within)))

value_more : (bytes more : List ℕ) (p : Place) → StandsIn bytes p →
    value_in (bytes ++ more) p ≡ value_in bytes p
value_more bytes more p h = ap (λ xs. if p.is_put then Some xs else None)
    (range_more bytes more (p.start + 6 + p.key_len) p.end h.ordered h.within)

record_more : (bytes more : List ℕ) (p : Place) → StandsIn bytes p →
    record_in (bytes ++ more) p ≡ record_in bytes p
record_more bytes more p h = same_record (key_in (bytes ++ more) p) (key_in bytes p)
    (value_in (bytes ++ more) p) (value_in bytes p) (key_more bytes more p h)
    (value_more bytes more p h)

stands_more : (bytes more : List ℕ) (p : Place) → StandsIn bytes p → StandsIn (bytes ++ more) p
stands_more bytes more p h = let same = record_more bytes more p h in record {
  ordered = h.ordered;
  within = omega (arith, h.within, length-append bytes more);
  spelled = range_more bytes more p.start p.end (omega (arith, h.ordered)) h.within ∙ h.spelled ∙
      ap record_spelling (sym same);
  lawful = subst IsRecord (sym same) h.lawful;
}

records_more : (bytes more : List ℕ) (places : List Place) → AllByRecursion (StandsIn bytes) places →
    records_in (bytes ++ more) places ≡ records_in bytes places
records_more bytes more [] h = refl
records_more bytes more (p ∷ places) h =
    ap (λ r. r ∷ records_in (bytes ++ more) places) (record_more bytes more p h.0) ∙
    ap (λ rs. record_in bytes p ∷ rs) (records_more bytes more places h.1)

-- ---- a record behind the bytes

module _ (bytes : List ℕ) (number : ℕ) (r : Record) where
  abbrev after : List ℕ
  after = bytes ++ record_spelling r

  abbrev place : Place
  place = place_of number (length bytes) (length after) r

  size : length after ≡ length bytes + (6 + length r.key + value_size r.value)
  size = length-append bytes (record_spelling r) ∙ ap (λ n. length bytes + n) (record_size r)

  new_key : key_in after place ≡ r.key
  new_key =
      part_there after (length bytes + 2) (length bytes + 2 + length r.key) (omega (arith, size)) ∙
      range_behind bytes (record_spelling r) 2 (length r.key) (length bytes + 2 + length r.key) refl ∙
      key_there r.key (change_spelling r.value) (length r.key) refl

  new_value : (v : Option (List ℕ)) → r.value ≡ v →
      (if is_some v then Some (slice_range after (length bytes + 6 + length r.key) (length after))
      else None) ≡ v
  new_value None e = refl
  new_value (Some v) e =
      let from : length bytes + 6 + length r.key ≡ length bytes + (2 + length r.key + 4) =
      omega arith in
      let all : length after ≡ length bytes + (2 + length r.key + 4) + length v =
      size ∙ ap (λ o. length bytes + (6 + length r.key + value_size o)) e ∙ omega arith in
      ap Some (ap (λ n. slice_range after n (length after)) from ∙
      range_behind bytes (record_spelling r) (2 + length r.key + 4) (length v) (length after) all ∙
      ap (take (length v)) (sym (drop-drop 4 (2 + length r.key) (record_spelling r)) ∙
      ap (drop 4) (after_two r.key (change_spelling r.value) (length r.key) refl ∙
      ap change_spelling e)) ∙ take_all (length v) v (omega arith))

  -- The record lies in its place.
  pub new_record : record_in after place ≡ r
  new_record = same_record (key_in after place) r.key (value_in after place) r.value new_key
      (new_value r.value refl)

  pub new_stands : IsRecord r → StandsIn after place
  new_stands h = record {
    ordered = omega (arith, size);
    within = omega arith;
    spelled = ap (take (length after - length bytes)) (drop-append_seam bytes (record_spelling r)) ∙
        take_all (length after - length bytes) (record_spelling r)
        (omega (arith, length-append bytes (record_spelling r))) ∙
        ap record_spelling (sym new_record);
    lawful = subst IsRecord (sym new_record) h;
  }

-- ---- what a run holds

written_more : (records : List Record) (r : Record) →
    written (records ++ r ∷ []) ≡ written records ++ record_spelling r
written_more records r = flat_map-append record_spelling records (r ∷ []) ∙
    ap (λ xs. written records ++ xs) (append-nil (record_spelling r))

-- The records with one more are those that lie there.
pub records_with : (bytes : List ℕ) (places : List Place) (number : ℕ) (r : Record) →
    All (StandsIn bytes) places →
    records_in (bytes ++ record_spelling r)
    (places ++ place_of number (length bytes) (length (bytes ++ record_spelling r)) r ∷ []) ≡
    records_in bytes places ++ r ∷ []
records_with bytes places number r h =
    map_push (record_in (bytes ++ record_spelling r)) places
    (place_of number (length bytes) (length (bytes ++ record_spelling r)) r) ∙
    ap (λ rs. rs ++ record_in (bytes ++ record_spelling r) (place_of number (length bytes)
    (length (bytes ++ record_spelling r)) r) ∷ [])
    (records_more bytes (record_spelling r) places (recursion_from_All (StandsIn bytes) places h)) ∙
    ap (λ s. records_in bytes places ++ s ∷ []) (new_record bytes number r)

-- A run holds one record more.
pub held_more : (bytes : List ℕ) (places : List Place) (is_rising rises : Bool) (budget : ℕ)
    (r : Record) → IsHeld bytes places is_rising budget → IsRecord r →
    length bytes + 24 * length places + (24 + length (record_spelling r)) ≤ budget →
    ((rises ≡ true) ↔ Rising (keys_of (records_in bytes places ++ r ∷ []))) →
    IsHeld (bytes ++ record_spelling r)
    (places ++ place_of (length places) (length bytes) (length (bytes ++ record_spelling r)) r ∷ [])
    rises budget
held_more bytes places is_rising rises budget r h lawful room rising =
    let place = place_of (length places) (length bytes) (length (bytes ++ record_spelling r)) r in
    let records = records_with bytes places (length places) r h.stand in
    record {
      stand = All-push (StandsIn (bytes ++ record_spelling r)) places place
          (All-weaker (StandsIn bytes) (StandsIn (bytes ++ record_spelling r))
          (stands_more bytes (record_spelling r)) places h.stand)
          (new_stands bytes (length places) r lawful);
      spelled = ap (λ xs. xs ++ record_spelling r) h.spelled ∙
          sym (written_more (records_in bytes places) r) ∙ ap written (sym records);
      numbered = numbered_more 0 places place h.numbered (omega arith);
      rising = subst (λ rs. (rises ≡ true) ↔ Rising (keys_of rs)) (sym records) rising;
      within = omega (
        arith,
        room,
        length-append bytes (record_spelling r),
        length-append places (place ∷ []),
      );
      limit = h.limit;
    }

-- ---- a record that was pushed

module _ (bytes all : List ℕ) (places more : List Place) (place : Place) (number start stop : ℕ)
    (r : Record) (appended : all ≡ bytes ++ record_spelling r) (pushed : more ≡ places ++ place ∷ [])
    (is : place ≡ place_of number start stop r) (numbered : number ≡ length places)
    (begins : start ≡ length bytes) (ends : stop ≡ length all) where
  place_is : place ≡ place_of (length places) (length bytes) (length (bytes ++ record_spelling r)) r
  place_is = is ∙ ap (λ n. place_of n start stop r) numbered ∙
      ap (λ n. place_of (length places) n stop r) begins ∙
      ap (λ n. place_of (length places) (length bytes) n r) (ends ∙ ap length appended)

  more_is : more ≡ places ++
      place_of (length places) (length bytes) (length (bytes ++ record_spelling r)) r ∷ []
  more_is = pushed ∙ ap (λ p. places ++ p ∷ []) place_is

  pub held_pushed : (is_rising rises : Bool) (budget : ℕ) → IsHeld bytes places is_rising budget →
      IsRecord r → length bytes + 24 * length places + (24 + length (record_spelling r)) ≤ budget →
      ((rises ≡ true) ↔ Rising (keys_of (records_in bytes places ++ r ∷ []))) →
      IsHeld all more rises budget
  held_pushed is_rising rises budget h lawful room rising =
      subst (λ xs. IsHeld xs more rises budget) (sym appended)
      (subst (λ ps. IsHeld (bytes ++ record_spelling r) ps rises budget) (sym more_is)
      (held_more bytes places is_rising rises budget r h lawful room rising))

  pub records_pushed : All (StandsIn bytes) places →
      records_in all more ≡ records_in bytes places ++ r ∷ []
  records_pushed h = ap (λ xs. records_in xs more) appended ∙
      ap (records_in (bytes ++ record_spelling r)) more_is ∙
      records_with bytes places (length places) r h
