-- What bytes begin with is spelled there, and what is spelled there is found.
use Rattle.std.specs.Prelude.{◌==◌}
use Rattle.std.proofs.Common.{◌≡◌, ℕ, ◌+◌, ◌-◌, ◌<◌, ◌≤◌, true, false, List, ◌++◌, length, take}
use Rattle.std.proofs.Common.{drop, Option, Some, None, refl, sym, ap, ◌∙◌, subst, arith}
use Rattle.std.proofs.Common.{append_assoc, length-drop}
use Rattle.std.proofs.lemmas.List.{length-take-le}
use Rattle.std.proofs.lemmas.Nat.{be_bytes_4}
use Rattle.std.specs.Int.{w32, to_be_bytes}
use Rattle.prolly_entry.specs.declared.front.FrontRecord.{FrontRecord}
use Rattle.prolly_entry.specs.declared.front.FrontRecord.TheVariants.{Put, Remove, More, KeyTooLong}
use Rattle.prolly_entry.specs.declared.front.FrontRecord.TheVariants.{ValueTooLong}
use Rattle.prolly_entry.specs.Record.{Record, IsRecord, IsChange}
use Rattle.prolly_entry.specs.Spelling.{record_spelling, key_spelling, value_spelling}
use Rattle.prolly_entry.specs.Spelling.{change_spelling}
use Rattle.prolly_entry.specs.Front.{front_of, as_pair, removal_at, IsCut, IsRecordAt}
use Rattle.prolly_entry.specs.Front.{IsFrontRecord, IsFrontPair, NoRecordAt, NoPairAt}
use Rattle.prolly_entry.proofs.ByteLists.{AreBytes, AreBytes-drop, AreBytes-take, cut_at}
use Rattle.prolly_entry.proofs.ByteLists.{key_is_spelled}
use Rattle.prolly_entry.specs.Reading.{key_length, value_length}
use Rattle.prolly_entry.proofs.FrontCases.{Shape, shape, not_same}
use Rattle.prolly_entry.specs.lemmas.Spellings.{value_number, value_size, record_size, numbers}

four_back : (bytes : List ℕ) → AreBytes bytes → 6 + key_length bytes ≤ length bytes →
    to_be_bytes w32 (value_length bytes) ≡ take 4 (drop (2 + key_length bytes) bytes)
four_back bytes h e = be_bytes_4 (take 4 (drop (2 + key_length bytes) bytes)) (value_length bytes)
    (length-take-le 4 (drop (2 + key_length bytes) bytes)
    (omega (arith, length-drop (2 + key_length bytes) bytes)))
    (AreBytes-take 4 (drop (2 + key_length bytes) bytes)
    (AreBytes-drop (2 + key_length bytes) bytes h)) refl

value_spelled : (bytes : List ℕ) → AreBytes bytes → 6 + key_length bytes + value_length bytes ≤
    length bytes →
    drop (2 + key_length bytes) bytes ≡ value_spelling
    (take (value_length bytes) (drop (6 + key_length bytes) bytes)) ++
    drop (6 + key_length bytes + value_length bytes) bytes
value_spelled bytes h e =
    let n = key_length bytes in
    let m = value_length bytes in
    let rest = drop (6 + n) bytes in
    let size : length (take m rest) ≡ m = length-take-le m rest
    (omega (arith, length-drop (6 + n) bytes)) in
    let there : 2 + n + 4 ≡ 6 + n = omega arith in
    cut_at (2 + n) 4 bytes
    ∙ (ap (λ k. take 4 (drop (2 + n) bytes) ++ drop k bytes) there
    ∙ (ap (λ (t : List ℕ). take 4 (drop (2 + n) bytes) ++ t) (cut_at (6 + n) m bytes)
    ∙ (ap (λ (t : List ℕ). t ++ (take m rest ++ drop (6 + n + m) bytes))
    (sym (four_back bytes h (omega arith)))
    ∙ (ap (λ k. to_be_bytes w32 k ++ (take m rest ++ drop (6 + n + m) bytes)) (sym size)
    ∙ sym (append_assoc (to_be_bytes w32 (length (take m rest))) (take m rest)
    (drop (6 + n + m) bytes))))))

-- ---- what is spelled is found

-- a whole record
abbrev pub IsWhole : FrontRecord → Type 0
IsWhole (Put a b c) = Unit {0}
IsWhole (Remove a b) = Unit {0}
IsWhole More = ⊥
IsWhole KeyTooLong = ⊥
IsWhole ValueTooLong = ⊥

is_whole : {len n m : ℕ} {f : FrontRecord} (value : Option (List ℕ)) → Shape len n m f →
    IsChange value → m ≡ value_number value → n ≤ 1024 → 6 + n + value_size value ≤ len → IsWhole f
is_whole value (Shape.no_key a) h e k l = absurd (omega arith)
is_whole value (Shape.long_key a b) h e k l = absurd (omega arith)
is_whole value (Shape.no_length a b c) h e k l = absurd (omega arith)
is_whole value (Shape.removal a b c) h e k l = tt
is_whole None (Shape.long_value a b c d) h e k l =
    absurd (not_both (subst (λ x. (x == 0xFFFF_FFFF) ≡ false) e c))
  where
    not_both : true ≡ false → ⊥
    not_both e = cc
is_whole (Some v) (Shape.long_value a b c d) h e k l = absurd (omega arith)
is_whole None (Shape.no_value a b c d) h e k l = absurd (omega arith)
is_whole (Some v) (Shape.no_value a b c d) h e k l = absurd (omega arith)
is_whole value (Shape.whole a b c) h e k l = tt

pub spelled_whole : (r : Record) (more bytes : List ℕ) → IsRecord r →
    bytes ≡ record_spelling r ++ more → IsWhole (front_of bytes)
spelled_whole r more bytes h e =
    let t = numbers r more bytes h e in
    is_whole r.value (shape (length bytes) (key_length bytes) (value_length bytes)) h.value t.value
    (omega (arith, t.key, h.key)) (omega (arith, t.key, t.len))

pub no_front : (bytes : List ℕ) → (IsWhole (front_of bytes) → ⊥) → NoRecordAt bytes
no_front bytes d r more h e = d (spelled_whole r more bytes h e)

-- ---- what is found is spelled

front_is : (bytes : List ℕ) (r : Record) (len : ℕ) → IsRecord r →
    len ≡ 6 + length r.key + value_size r.value → len ≤ length bytes →
    bytes ≡ record_spelling r ++ drop len bytes → IsRecordAt bytes r len
front_is bytes r len h e w s = record {
  lawful = h;
  spelled = s;
  size = record_size r ∙ sym e;
  within = w;
}

spelled_by : (bytes key rest more : List ℕ) (value : Option (List ℕ)) →
    bytes ≡ key_spelling key ++ rest → rest ≡ change_spelling value ++ more →
    bytes ≡ record_spelling (record { key = key; value = value }) ++ more
spelled_by bytes key rest more value e f = e ∙
    (ap (λ (t : List ℕ). key_spelling key ++ t) f ∙
    sym (append_assoc (key_spelling key) (change_spelling value) more))

removal_front : (bytes : List ℕ) (a : ℕ) → AreBytes bytes → a ≡ key_length bytes →
    key_length bytes ≤ 1024 → 6 + key_length bytes ≤ length bytes →
    value_length bytes ≡ 0xFFFF_FFFF →
    IsRecordAt bytes (record { key = take a (drop 2 bytes); value = None }) (6 + key_length bytes)
removal_front bytes a h e k w v =
    let n = key_length bytes in
    let there : 2 + n + 4 ≡ 6 + n = omega arith in
    let size : length (take n (drop 2 bytes)) ≡ n =
    length-take-le n (drop 2 bytes) (omega (arith, length-drop 2 bytes)) in
    let change : drop (2 + n) bytes ≡ change_spelling None ++ drop (6 + n) bytes =
    cut_at (2 + n) 4 bytes ∙ (ap (λ k. take 4 (drop (2 + n) bytes) ++ drop k bytes) there
    ∙ ap (λ (t : List ℕ). t ++ drop (6 + n) bytes) (sym (four_back bytes h w) ∙
    ap (to_be_bytes w32) v)) in
    let P : ℕ → Type 0 = λ x. IsRecordAt bytes
    (record { key = take x (drop 2 bytes); value = None }) (6 + n) in
    subst P (sym e) (front_is bytes (record { key = take n (drop 2 bytes); value = None }) (6 + n)
    (record { key = omega arith; value = tt }) (omega arith) w
    (spelled_by bytes (take n (drop 2 bytes)) (drop (2 + n) bytes) (drop (6 + n) bytes) None
    (key_is_spelled bytes (key_length bytes) h refl (omega arith)) change))

put_front : (bytes : List ℕ) (a b : ℕ) → AreBytes bytes → a ≡ key_length bytes →
    b ≡ value_length bytes → key_length bytes ≤ 1024 → value_length bytes ≤ 65536 →
    6 + key_length bytes + value_length bytes ≤ length bytes →
    IsRecordAt bytes (record {
      key = take a (drop 2 bytes);
      value = Some (take b (drop (6 + key_length bytes) bytes));
    })
    (6 + key_length bytes + value_length bytes)
put_front bytes a b h e f k v w =
    let n = key_length bytes in
    let m = value_length bytes in
    let key_is : length (take n (drop 2 bytes)) ≡ n =
    length-take-le n (drop 2 bytes) (omega (arith, length-drop 2 bytes)) in
    let value_is : length (take m (drop (6 + n) bytes)) ≡ m =
    length-take-le m (drop (6 + n) bytes) (omega (arith, length-drop (6 + n) bytes)) in
    let P : ℕ → Type 0 = λ x. IsRecordAt bytes
    (record { key = take x (drop 2 bytes); value = Some (take b (drop (6 + n) bytes)) })
    (6 + n + m) in
    let Q : ℕ → Type 0 = λ y. IsRecordAt bytes
    (record { key = take n (drop 2 bytes); value = Some (take y (drop (6 + n) bytes)) })
    (6 + n + m) in
    subst P (sym e) (subst Q (sym f) (front_is bytes
    (record { key = take n (drop 2 bytes); value = Some (take m (drop (6 + n) bytes)) })
    (6 + n + m)
    (record { key = omega arith; value = omega arith }) (omega arith) w
    (spelled_by bytes (take n (drop 2 bytes)) (drop (2 + n) bytes) (drop (6 + n + m) bytes)
    (Some (take m (drop (6 + n) bytes)))
    (key_is_spelled bytes (key_length bytes) h refl (omega arith)) (value_spelled bytes h w))))

cut_short : (bytes : List ℕ) {f : FrontRecord} → front_of bytes ≡ f → (IsWhole f → ⊥) →
    NoRecordAt bytes
cut_short bytes e d = no_front bytes (λ w. d (subst IsWhole e w))

found : (bytes : List ℕ) {f : FrontRecord} → AreBytes bytes → (front_of bytes ≡ f) →
    Shape (length bytes) (key_length bytes) (value_length bytes) f → IsFrontRecord bytes f
found bytes h e (Shape.no_key a) = (cut_short bytes e (λ w. w), IsCut.in_key_length a)
found bytes h e (Shape.long_key a b) = (cut_short bytes e (λ w. w), record { there = a; over = b })
found bytes h e (Shape.no_length a b c) = (cut_short bytes e (λ w. w), IsCut.before_value b c)
found bytes h e (Shape.removal a b c) = (
  removal_front bytes (2 + key_length bytes - 2) h
      (omega arith) a b c,
  omega arith,
  omega arith,
)
found bytes h e (Shape.long_value a b c d) = (
  cut_short bytes e (λ w. w),
  record { key = a; there = b; over = d },
  not_same (value_length bytes) c,
)
found bytes h e (Shape.no_value a b c d) = (cut_short bytes e (λ w. w), IsCut.in_value a c d)
found bytes h e (Shape.whole a b c) =
    let n = key_length bytes in
    let m = value_length bytes in (
      put_front bytes (2 + n - 2) (6 + n + m - (6 + n)) h (omega arith) (omega arith) a b c,
      omega arith,
      omega arith,
      omega arith,
    )

pub front_found : (bytes : List ℕ) (f : FrontRecord) → AreBytes bytes → f ≡ front_of bytes →
    IsFrontRecord bytes f
front_found bytes f h e = subst (λ x. IsFrontRecord bytes x) (sym e)
    (found bytes h refl (shape (length bytes) (key_length bytes) (value_length bytes)))

-- Where nothing is decided, the bytes are fewer than the greatest record has.
pub cut_few : (bytes : List ℕ) → IsCut bytes → length bytes < 66566
cut_few bytes (IsCut.in_key_length a) = omega arith
cut_few bytes (IsCut.before_value a b) = omega arith
cut_few bytes (IsCut.in_value a b c) = omega arith

-- ---- a pair is a record that puts it

no_pair : (bytes : List ℕ) → NoRecordAt bytes → NoPairAt bytes
no_pair bytes h p more lawful e =
    h (record { key = p.key; value = Some p.value }) more
    (record { key = lawful.key; value = lawful.value }) e

pub pair_found : (bytes : List ℕ) (f : FrontRecord) → IsFrontRecord bytes f →
    IsFrontPair bytes (as_pair f)
pair_found bytes (Put key_end value_start len) h = (
  record {
    lawful = record { key = h.0.lawful.key; value = h.0.lawful.value };
    spelled = h.0.spelled;
    size = h.0.size;
    within = h.0.within;
  },
  h.1,
  h.2,
  h.3,
)
pair_found bytes (Remove key_end len) h =
    let at = numbers (removal_at bytes key_end) (drop len bytes) bytes h.0.lawful h.0.spelled in
    let short = h.0.lawful.key in (
      λ p more lawful e. let put = numbers (record { key = p.key; value = Some p.value }) more bytes
          (record { key = lawful.key; value = lawful.value }) e in
          let few = lawful.value in omega (arith, put.value, at.value),
      record {
        key = omega (arith, at.key);
        there = omega (arith, at.key, at.len);
        over = omega (arith, at.value);
      },
    )
pair_found bytes More h = (no_pair bytes h.0, h.1)
pair_found bytes KeyTooLong h = (no_pair bytes h.0, h.1)
pair_found bytes ValueTooLong h = (no_pair bytes h.0, h.1)
