-- What is wrong with the next record stays wrong when more bytes follow.
use Rattle.std.specs.Prelude.{◌==◌}
use Rattle.std.proofs.Common.{◌≡◌, ◌≢◌, ℕ, ◌+◌, ◌≤◌, true, List, ◌++◌, length, take, drop, Option}
use Rattle.std.proofs.Common.{Some, refl, sym, ap, ◌∙◌, arith, append_assoc, length-append}
use Rattle.std.proofs.Common.{length-drop}
use Rattle.std.proofs.lemmas.Bool.Decides.{nat_tests}
use Rattle.std.proofs.lemmas.List.{take-append-le, drop-append-le}
use Rattle.std.specs.Int.{w16, w32, from_be_bytes}
use Rattle.prolly_entry.specs.declared.front.FrontRecord.{FrontRecord}
use Rattle.prolly_entry.specs.declared.front.FrontRecord.TheVariants.{Put, Remove, More, KeyTooLong}
use Rattle.prolly_entry.specs.declared.front.FrontRecord.TheVariants.{ValueTooLong}
use Rattle.prolly_entry.specs.Record.{Record, IsRecord}
use Rattle.prolly_entry.specs.Spelling.{record_spelling}
use Rattle.prolly_entry.specs.Position.{Position}
use Rattle.prolly_entry.specs.declared.next.Flaw.{Flaw}
use Rattle.prolly_entry.specs.declared.next.Flaw.TheVariants as flaws
use Rattle.prolly_entry.specs.Front.{front_of, IsRecordAt}
use Rattle.prolly_entry.specs.Reading.{key_length, value_length, flaw_by, next_flaw, order_flaw}
use Rattle.prolly_entry.proofs.FrontCases.{Shape, shape, more_same}
use Rattle.prolly_entry.proofs.FrontBytes.{IsWhole, spelled_whole}
use Rattle.prolly_entry.specs.lemmas.Spellings.{numbers}

-- What is wrong, where the limit is not reached.
abbrev pub flaw_at : FrontRecord → Option Flaw → Option Flaw
flaw_at (Put a b c) order = order
flaw_at (Remove a b) order = order
flaw_at More order = Some flaws.Truncated
flaw_at KeyTooLong order = Some flaws.KeyTooLong
flaw_at ValueTooLong order = Some flaws.ValueTooLong

pub flaw_is : {len n m : ℕ} {f : FrontRecord} (limit count : ℕ) (order : Option Flaw) →
    Shape len n m f → count ≢ limit → flaw_by limit count len n m order ≡ flaw_at f order
flaw_is {len} {n} {m} limit count order (Shape.no_key a) d = grind (arith, nat_tests)
flaw_is {len} {n} {m} limit count order (Shape.long_key a b) d = grind (arith, nat_tests)
flaw_is {len} {n} {m} limit count order (Shape.no_length a b c) d = grind (arith, nat_tests)
flaw_is {len} {n} {m} limit count order (Shape.removal a b c) d = grind (arith, nat_tests)
flaw_is {len} {n} {m} limit count order (Shape.long_value a b c k) d = grind (arith, nat_tests)
flaw_is {len} {n} {m} limit count order (Shape.no_value a b c k) d = grind (arith, nat_tests)
flaw_is {len} {n} {m} limit count order (Shape.whole a b c) d = grind (arith, nat_tests)

same_number : (a b : ℕ) → a ≡ b → (a == b) ≡ true
same_number a b e = grind (arith, nat_tests)

pub full_flaw : (limit count : ℕ) (position : Position) (bytes : List ℕ) → count ≡ limit →
    next_flaw limit count position bytes ≡ Some flaws.TooManyRecords
full_flaw limit count position bytes e = rw (same_number count limit e)

front_more : (bytes more : List ℕ) → (front_of bytes ≡ More → ⊥) →
    front_of (bytes ++ more) ≡ front_of bytes
front_more bytes more d =
    more_same (length (bytes ++ more)) (key_length (bytes ++ more)) (value_length (bytes ++ more))
    (shape (length bytes) (key_length bytes) (value_length bytes)) d
    (omega (arith, length-append bytes more)) key value
  where
    key : 2 ≤ length bytes → key_length bytes ≡ key_length (bytes ++ more)
    key h = ap (from_be_bytes w16) (sym (take-append-le 2 bytes more h))

    value : 6 + key_length bytes ≤ length bytes → value_length bytes ≡ value_length (bytes ++ more)
    value h =
        let n = key_length bytes in
        let there : drop (2 + n) (bytes ++ more) ≡ drop (2 + n) bytes ++ more =
        drop-append-le (2 + n) bytes more (omega arith) in
        let four : take 4 (drop (2 + n) bytes ++ more) ≡ take 4 (drop (2 + n) bytes) =
        take-append-le 4 (drop (2 + n) bytes) more (omega (arith, length-drop (2 + n) bytes)) in
        sym (ap (λ k. from_be_bytes w32 (take 4 (drop (2 + k) (bytes ++ more))))
        (sym (key (omega arith)))
        ∙ (ap (λ (t : List ℕ). from_be_bytes w32 (take 4 t)) there ∙ ap (from_be_bytes w32) four))

pub flaw_there : (limit count : ℕ) (position : Position) (bytes : List ℕ) → count ≢ limit →
    next_flaw limit count position bytes ≡ flaw_at (front_of bytes)
    (order_flaw position (take (key_length bytes) (drop 2 bytes)))
flaw_there limit count position bytes d = flaw_is limit count
    (order_flaw position (take (key_length bytes) (drop 2 bytes)))
    (shape (length bytes) (key_length bytes) (value_length bytes)) d

at_front : (limit count : ℕ) (position : Position) (bytes : List ℕ) (f : FrontRecord) →
    front_of bytes ≡ f → count ≢ limit →
    next_flaw limit count position bytes ≡ flaw_at f
    (order_flaw position (take (key_length bytes) (drop 2 bytes)))
at_front limit count position bytes f e d =
    flaw_there limit count position bytes d ∙
    ap (λ g. flaw_at g (order_flaw position (take (key_length bytes) (drop 2 bytes)))) e

pub key_stays : (limit count : ℕ) (position : Position) (bytes more : List ℕ) →
    KeyTooLong ≡ front_of bytes → count ≢ limit →
    next_flaw limit count position (bytes ++ more) ≡ Some flaws.KeyTooLong
key_stays limit count position bytes more e d =
    at_front limit count position (bytes ++ more) KeyTooLong
    (front_more bytes more (λ i. other (e ∙ i)) ∙ sym e) d
  where
    other : KeyTooLong ≡ More → ⊥
    other e = cc

pub value_stays : (limit count : ℕ) (position : Position) (bytes more : List ℕ) →
    ValueTooLong ≡ front_of bytes → count ≢ limit →
    next_flaw limit count position (bytes ++ more) ≡ Some flaws.ValueTooLong
value_stays limit count position bytes more e d =
    at_front limit count position (bytes ++ more) ValueTooLong
    (front_more bytes more (λ i. other (e ∙ i)) ∙ sym e) d
  where
    other : ValueTooLong ≡ More → ⊥
    other e = cc

pub cut_flaw : (limit count : ℕ) (position : Position) (bytes : List ℕ) → More ≡ front_of bytes →
    count ≢ limit →
    next_flaw limit count position bytes ≡ Some flaws.Truncated
cut_flaw limit count position bytes e d = at_front limit count position bytes More (sym e) d

whole_at : (f : FrontRecord) (order : Option Flaw) → IsWhole f → flaw_at f order ≡ order
whole_at (Put a b c) order w = refl
whole_at (Remove a b) order w = refl
whole_at More order w = absurd w
whole_at KeyTooLong order w = absurd w
whole_at ValueTooLong order w = absurd w

-- Behind good records a further whole one is out of order, or good.
pub whole_flaw : (limit count : ℕ) (position : Position) (r : Record) (more bytes : List ℕ) →
    IsRecord r → bytes ≡ record_spelling r ++ more → count ≢ limit →
    next_flaw limit count position bytes ≡ order_flaw position r.key
whole_flaw limit count position r more bytes h e d =
    flaw_there limit count position bytes d
    ∙ (whole_at (front_of bytes) (order_flaw position (take (key_length bytes) (drop 2 bytes)))
    (spelled_whole r more bytes h e)
    ∙ ap (order_flaw position) (numbers r more bytes h e).there)

pub front_flaw : (limit count : ℕ) (position : Position) (bytes more : List ℕ) (r : Record)
    (len : ℕ) → IsRecordAt bytes r len → count ≢ limit →
    next_flaw limit count position (bytes ++ more) ≡ order_flaw position r.key
front_flaw limit count position bytes more r len h d =
    whole_flaw limit count position r (drop len bytes ++ more) (bytes ++ more) h.lawful
    (ap (λ (t : List ℕ). t ++ more) h.spelled ∙ append_assoc (record_spelling r) (drop len bytes)
    more) d
