-- Counting the entries that the first records of a file put.
use Rattle.std.proofs.Common.{◌≡◌, ℕ, ◌+◌, ◌≤◌, List, [], ◌∷◌, ◌++◌, length, drop, Option, Some, None}
use Rattle.std.proofs.Common.{refl, sym, ap, ◌∙◌, ◌⊎◌, inl, inr, subst, arith, length-append}
use Rattle.std.proofs.Common.{length-drop}
use Rattle.std.specs.Prelude.{is_some, true, false, option_map, take, ◌-◌}
use Rattle.std.proofs.lemmas.List.{append-nil}
use Rattle.std.proofs.lemmas.List.Concat.{flat_map-append}
use Rattle.std.specs.List.{flat_map}
use Rattle.prolly_entry.specs.declared.next.Flaw.{Flaw}
use Rattle.prolly_entry.specs.declared.next.Flaw.TheVariants as flaws
use Rattle.prolly_entry.specs.NextRecord.{IsFlawed, IsNext, IsNextRecord, IsUndecided}
use Rattle.prolly_entry.specs.declared.next.NextRecord.{NextRecord}
use Rattle.prolly_entry.specs.declared.next.NextRecord.TheVariants as nexts
use Rattle.prolly_entry.specs.Overlay.{pairs_put, pairs_of_change}
use Rattle.prolly_entry.specs.Pair.{Pair}
use Rattle.prolly_entry.specs.Position.{Position, last_position}
use Rattle.prolly_entry.specs.Reading.{Begins, IsReading}
use Rattle.prolly_entry.specs.Record.{Record}
use Rattle.prolly_entry.specs.RecordAt.{LiesIn, record_at}
use Rattle.prolly_entry.specs.Spelling.{change_spelling, key_spelling, pair_spelling, record_spelling}
use Rattle.prolly_entry.specs.Spelling.{value_spelling}
use Rattle.prolly_entry.specs.declared.next.RecordAt.{RecordAt}
use Rattle.prolly_laws.specs.Readings.{begins_more, begins_none, ends_clean, ends_cut, ends_flawed}
use Rattle.prolly_laws.specs.Readings.{last_more}
use Rattle.prolly_answer.specs.ChunkBytes.{ArePuts, entry_bytes}

-- Some records were counted, and the rest of the bytes follows.
pub record IsCounting (front rest : List ℕ) (count : ℕ) (position : Position) (entries bytes : ℕ)
    : Type 0 where
  pub good : List Record
  pub begins : Begins front 16777216 good rest
  pub count_is : count ≡ length good
  pub position_is : position ≡ last_position good
  pub entries_are : entries ≡ length (pairs_put good)
  pub bytes_are : bytes ≡ entry_bytes good
  pub some : entries ≤ bytes
  pub within : bytes + length rest ≤ length front

pub none_counted : (front : List ℕ) → IsCounting front front 0 None 0 0
none_counted front = record {
  good = [];
  begins = begins_none front 16777216;
  count_is = refl;
  position_is = refl;
  entries_are = refl;
  bytes_are = refl;
  some = omega arith;
  within = omega arith;
}

-- How many entries a record puts, and how many bytes these have.
abbrev pub put_count : Record → ℕ
put_count r = length (pairs_of_change r.key r.value)

abbrev pub put_bytes : Record → ℕ
put_bytes r = length (flat_map pair_spelling (pairs_of_change r.key r.value))

-- One record more puts its entries behind the others.
put_more : (good : List Record) (r : Record) →
    pairs_put (good ++ r ∷ []) ≡ pairs_put good ++ pairs_of_change r.key r.value
put_more good r = flat_map-append (λ (x : Record). pairs_of_change x.key x.value) good (r ∷ [])
    ∙ ap (λ (q : List Pair). pairs_put good ++ q) (append-nil (pairs_of_change r.key r.value))

bytes_more : (good : List Record) (r : Record) →
    entry_bytes (good ++ r ∷ []) ≡ entry_bytes good + put_bytes r
bytes_more good r = ap (λ (q : List Pair). length (flat_map pair_spelling q)) (put_more good r)
    ∙ (ap length (flat_map-append pair_spelling (pairs_put good) (pairs_of_change r.key r.value))
    ∙ length-append (flat_map pair_spelling (pairs_put good))
    (flat_map pair_spelling (pairs_of_change r.key r.value)))

-- One record more is counted.
one_counted : (front rest rest' : List ℕ) (count : ℕ) (position position' : Position)
    (entries entries' bytes bytes' : ℕ) (r : Record) (len : ℕ) →
    IsCounting front rest count position entries bytes →
    IsNext 16777216 count position rest r len →
    rest' ≡ drop len rest → position' ≡ Some r.key →
    entries' ≡ entries + put_count r → bytes' ≡ bytes + put_bytes r →
    put_count r ≤ put_bytes r → put_bytes r ≤ len →
    IsCounting front rest' (count + 1) position' entries' bytes'
one_counted front rest rest' count position position' entries entries' bytes bytes' r len h k e f
    puts takes some few = record {
      good = h.good ++ r ∷ [];
      begins = subst (λ (x : List ℕ). Begins front 16777216 (h.good ++ r ∷ []) x)
          (append-nil (drop len rest) ∙ sym e)
          (begins_more front 16777216 h.good rest rest [] r len h.begins (sym (append-nil rest))
          next);
      count_is = let c = h.count_is in let n = length-append h.good (r ∷ []) in omega arith;
      position_is = f ∙ sym (last_more h.good r);
      entries_are = let c = h.entries_are in
          let n = ap length (put_more h.good r) in
          let m = length-append (pairs_put h.good) (pairs_of_change r.key r.value) in
          omega arith;
      bytes_are = let c = h.bytes_are in let n = bytes_more h.good r in omega arith;
      some = let c = h.some in omega arith;
      within = let c = h.within in
          let n = ap length e in
          let m = length-drop len rest in
          let there = k.there.within in
          omega arith;
    }
  where
    next : IsNext 16777216 (length h.good) (last_position h.good) rest r len
    next = record {
      there = k.there;
      room = λ q. k.room (h.count_is ∙ q);
      rises = rw (← h.position_is) k.rises;
    }

-- A record that puts a value puts one entry, which has its bytes; a removal puts none.
put_sizes : (r : Record) (len : ℕ) → is_some r.value ≡ true → length (record_spelling r) ≡ len →
    (put_count r ≡ 1) × (put_bytes r ≡ len)
put_sizes r len some size = go r.value some size
  where
    go : (v : Option (List ℕ)) → is_some v ≡ true
        → length (key_spelling r.key ++ change_spelling v) ≡ len
        → (length (pairs_of_change r.key v) ≡ 1)
        × (length (flat_map pair_spelling (pairs_of_change r.key v)) ≡ len)
    go None s e = cc
    go (Some value) s e = (
      refl,
      ap length (append-nil (key_spelling r.key ++ value_spelling value)) ∙ e,
    )

removal_sizes : (r : Record) → is_some r.value ≡ false → (put_count r ≡ 0) × (put_bytes r ≡ 0)
removal_sizes r none = go r.value none
  where
    go : (v : Option (List ℕ)) → is_some v ≡ false → (length (pairs_of_change r.key v) ≡ 0)
        × (length (flat_map pair_spelling (pairs_of_change r.key v)) ≡ 0)
    go None s = (refl, refl)
    go (Some value) s = cc

-- A record puts a value where it lies.
value_lies : (rest : List ℕ) (at : RecordAt) →
    is_some (record_at rest at).value ≡ is_some at.value_start
value_lies rest at = go at.value_start
  where
    go : (o : Option ℕ) →
        is_some (option_map (λ start. take (at.len - start) (drop start rest)) o) ≡ is_some o
    go None = refl
    go (Some start) = refl

-- One record more is counted that puts a value.
pub put_counted : (front rest rest' : List ℕ) (count : ℕ) (position position' : Position)
    (entries entries' bytes bytes' : ℕ) (at : RecordAt) →
    IsCounting front rest count position entries bytes →
    IsNext 16777216 count position rest (record_at rest at) at.len × LiesIn rest at →
    is_some at.value_start ≡ true → rest' ≡ drop at.len rest →
    position' ≡ Some (record_at rest at).key → entries' ≡ entries + 1 → bytes' ≡ bytes + at.len →
    IsCounting front rest' (count + 1) position' entries' bytes'
put_counted front rest rest' count position position' entries entries' bytes bytes' at h k some e f
    more longer =
    let sizes = put_sizes (record_at rest at) at.len (value_lies rest at ∙ some) k.0.there.size in
    let key = k.1.key in
    let starts = k.1.starts in
    one_counted front rest rest' count position position' entries entries' bytes bytes'
    (record_at rest at) at.len h k.0 e f (omega (arith, more, sizes.0))
    (omega (arith, longer, sizes.1)) (omega (arith, sizes.0, sizes.1, key, starts))
    (omega (arith, sizes.1))

-- One record more is counted that removes its key.
pub removal_counted : (front rest rest' : List ℕ) (count : ℕ) (position position' : Position)
    (entries bytes : ℕ) (at : RecordAt) →
    IsCounting front rest count position entries bytes →
    IsNext 16777216 count position rest (record_at rest at) at.len × LiesIn rest at →
    is_some at.value_start ≡ false → rest' ≡ drop at.len rest →
    position' ≡ Some (record_at rest at).key →
    IsCounting front rest' (count + 1) position' entries bytes
removal_counted front rest rest' count position position' entries bytes at h k none e f =
    let sizes = removal_sizes (record_at rest at) (value_lies rest at ∙ none) in
    one_counted front rest rest' count position position' entries entries bytes bytes
    (record_at rest at) at.len h k.0 e f (omega (arith, sizes.0)) (omega (arith, sizes.1))
    (omega (arith, sizes.0, sizes.1)) (omega (arith, sizes.1))

-- What was counted are the puts of the bytes, by their reading.
puts_by : (front rest : List ℕ) (count : ℕ) (position : Position) (entries bytes : ℕ)
    (ending : Option Flaw) (h : IsCounting front rest count position entries bytes) →
    IsReading front 16777216 h.good ending → ArePuts front entries bytes
puts_by front rest count position entries bytes ending h reading = record {
  good = h.good;
  ending = ending;
  reading = reading;
  entries_are = h.entries_are;
  bytes_are = h.bytes_are;
  some = h.some;
  within = let c = h.within in omega arith;
}

-- Nothing follows that is a whole record.
cut_behind : (front rest : List ℕ) (count : ℕ) (position : Position) (entries bytes : ℕ) →
    IsCounting front rest count position entries bytes → IsUndecided 16777216 count position rest →
    ArePuts front entries bytes
cut_behind front [] count position entries bytes h k =
    puts_by front [] count position entries bytes None h (ends_clean front 16777216 h.good h.begins)
cut_behind front (b ∷ rest) count position entries bytes h k =
    puts_by front (b ∷ rest) count position entries bytes (Some flaws.Truncated) h
    (ends_cut front 16777216 h.good (b ∷ rest) h.begins (omega arith)
    (rw (← h.count_is, ← h.position_is) k))

-- A flawed record follows.
flaw_behind : (front rest : List ℕ) (count : ℕ) (position : Position) (entries bytes : ℕ)
    (flaw : Flaw) → IsCounting front rest count position entries bytes →
    IsFlawed 16777216 count position rest flaw → ArePuts front entries bytes
flaw_behind front rest count position entries bytes flaw h k =
    puts_by front rest count position entries bytes (Some flaw) h
    (ends_flawed front 16777216 h.good rest rest [] flaw h.begins (sym (append-nil rest))
    (rw (← h.count_is, ← h.position_is) k))

-- No good record follows.
pub stopped : (front rest : List ℕ) (count : ℕ) (position : Position) (entries bytes : ℕ)
    (next : NextRecord) → IsCounting front rest count position entries bytes →
    IsNextRecord 16777216 count position rest next →
    (next ≡ nexts.More) ⊎ ((flaw : Flaw) × (next ≡ nexts.Flawed flaw)) → ArePuts front entries bytes
stopped front rest count position entries bytes next h k (inl is) =
    cut_behind front rest count position entries bytes h
    (subst (IsNextRecord 16777216 count position rest) is k)
stopped front rest count position entries bytes next h k (inr flawed) =
    flaw_behind front rest count position entries bytes flawed.0 h
    (subst (IsNextRecord 16777216 count position rest) flawed.1 k)
