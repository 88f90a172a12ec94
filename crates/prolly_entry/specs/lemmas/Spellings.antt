-- Spellings: that none begins another, and what stands where in them.
use Rattle.std.proofs.Common.{◌≡◌, ℕ, ◌+◌, ◌^◌, ◌<◌, ◌≤◌, List, [], ◌∷◌, ◌++◌, length, take, drop}
use Rattle.std.proofs.Common.{Option, Some, None, refl, sym, ap, ◌∙◌, subst, arith, append_assoc}
use Rattle.std.proofs.Common.{length-append}
use Rattle.std.proofs.Math.Seq.{take-append_seam}
use Rattle.std.proofs.lemmas.List.{drop-drop}
use Rattle.std.proofs.lemmas.Nat.{from_be_bytes-to_be_bytes_2, from_be_bytes-to_be_bytes_4}
use Rattle.std.proofs.lemmas.Nat.{from_be_bytes-to_be_bytes_8}
use Rattle.std.specs.Int.{w16, w32, w64, to_be_bytes, from_be_bytes}
use Rattle.sha2.specs.Sha512.{sha512, digest_bytes}
use Rattle.prolly_entry.specs.declared.version.Version.{Version}
use Rattle.prolly_entry.specs.declared.version.Version.TheVariants.{One, Two}
use Rattle.prolly_entry.specs.Pair.{Pair}
use Rattle.prolly_entry.specs.Reading.{key_length, value_length}
use Rattle.prolly_entry.specs.Record.{Record, IsRecord, IsChange}
use Rattle.prolly_entry.specs.Reference.{reference_of}
use Rattle.prolly_entry.specs.Spelling.{key_spelling, value_spelling, change_spelling}
use Rattle.prolly_entry.specs.Spelling.{count_spelling, record_spelling, PairSpellingsApart}
use Rattle.prolly_entry.specs.Spelling.{RecordSpellingsApart, ChildSpellingsApart}
use Rattle.prolly_entry.specs.lemmas.Lists.{Apart, apart}

-- Numbers that eight bytes spell alike are the same.
pub eight_bytes : (m n : ℕ) → m < 2 ^ 64 → n < 2 ^ 64 → to_be_bytes w64 m ≡ to_be_bytes w64 n →
    m ≡ n
eight_bytes m n h k e = sym (from_be_bytes-to_be_bytes_8 m h) ∙ ap (from_be_bytes w64) e ∙
    from_be_bytes-to_be_bytes_8 n k

-- A reference has 20 bytes.
pub reference_length : (b : List ℕ) → length (reference_of b) ≡ 20
unfolding reference_of sha512 digest_bytes
reference_length b = refl

-- ---- no spelling begins another

two_bytes : (m n : ℕ) → m < 2 ^ 16 → n < 2 ^ 16 → to_be_bytes w16 m ≡ to_be_bytes w16 n → m ≡ n
two_bytes m n h k e = sym (from_be_bytes-to_be_bytes_2 m h) ∙ ap (from_be_bytes w16) e ∙
    from_be_bytes-to_be_bytes_2 n k

four_bytes : (m n : ℕ) → m < 2 ^ 32 → n < 2 ^ 32 → to_be_bytes w32 m ≡ to_be_bytes w32 n → m ≡ n
four_bytes m n h k e = sym (from_be_bytes-to_be_bytes_4 m h) ∙ ap (from_be_bytes w32) e ∙
    from_be_bytes-to_be_bytes_4 n k

-- No spelling of a key begins another.
pub key_apart : (a b x y : List ℕ) → length a ≤ 1024 → length b ≤ 1024 →
    key_spelling a ++ x ≡ key_spelling b ++ y → Apart a b x y
key_apart a b x y h k e =
    let n = apart (to_be_bytes w16 (length a)) (to_be_bytes w16 (length b)) (a ++ x) (b ++ y) refl e
    in
    apart a b x y (two_bytes (length a) (length b) (omega arith) (omega arith) n.front) n.rest

-- No spelling of a value begins another.
pub value_apart : (a b x y : List ℕ) → length a ≤ 65536 → length b ≤ 65536 →
    value_spelling a ++ x ≡ value_spelling b ++ y → Apart a b x y
value_apart a b x y h k e =
    let n = apart (to_be_bytes w32 (length a)) (to_be_bytes w32 (length b)) (a ++ x) (b ++ y) refl e
    in
    apart a b x y (four_bytes (length a) (length b) (omega arith) (omega arith) n.front) n.rest

-- A pair is its key and its value.
pub same_pair : (key key' value value' : List ℕ) → key ≡ key' → value ≡ value' →
    ◌≡◌ {A = Pair} (record { key = key; value = value }) (record { key = key'; value = value' })
same_pair key key' value value' e f = cc

-- No spelling of a pair begins another.
pub pair_spellings_apart : PairSpellingsApart
pair_spellings_apart p q x y h k e =
    let first = key_apart p.key q.key (value_spelling p.value ++ x) (value_spelling q.value ++ y)
    h.key k.key
    (sym (append_assoc (key_spelling p.key) (value_spelling p.value) x) ∙ e ∙
    append_assoc (key_spelling q.key) (value_spelling q.value) y) in
    let second = value_apart p.value q.value x y h.value k.value first.rest in
    (same_pair p.key q.key p.value q.value first.front second.front, second.rest)

change_apart : (a b : Option (List ℕ)) (x y : List ℕ) → IsChange a → IsChange b →
    change_spelling a ++ x ≡ change_spelling b ++ y → (a ≡ b) × (x ≡ y)
change_apart (Some a) (Some b) x y h k e = let r = value_apart a b x y h k e in
    (ap Some r.front, r.rest)
change_apart (Some a) None x y h k e =
    let n = apart (to_be_bytes w32 (length a)) (to_be_bytes w32 0xFFFF_FFFF) (a ++ x) y refl e in
    let same : length a ≡ 0xFFFF_FFFF = four_bytes (length a) 0xFFFF_FFFF (omega arith)
    (omega arith) n.front in
    absurd (omega arith)
change_apart None (Some b) x y h k e =
    let n = apart (to_be_bytes w32 0xFFFF_FFFF) (to_be_bytes w32 (length b)) x (b ++ y) refl e in
    let same : 0xFFFF_FFFF ≡ length b = four_bytes 0xFFFF_FFFF (length b) (omega arith)
    (omega arith) n.front in
    absurd (omega arith)
change_apart None None x y h k e =
    let n = apart (to_be_bytes w32 0xFFFF_FFFF) (to_be_bytes w32 0xFFFF_FFFF) x y refl e in
    (refl, n.rest)

same_record : (key key' : List ℕ) (value value' : Option (List ℕ)) → key ≡ key' → value ≡ value' →
    ◌≡◌ {A = Record} (record { key = key; value = value }) (record { key = key'; value = value' })
same_record key key' value value' e f = cc

-- No spelling of a record begins another.
pub record_spellings_apart : RecordSpellingsApart
record_spellings_apart r s x y h k e =
    let first = key_apart r.key s.key (change_spelling r.value ++ x) (change_spelling s.value ++ y)
    h.key k.key
    (sym (append_assoc (key_spelling r.key) (change_spelling r.value) x) ∙ e ∙
    append_assoc (key_spelling s.key) (change_spelling s.value) y) in
    let second = change_apart r.value s.value x y h.value k.value first.rest in
    (same_record r.key s.key r.value s.value first.front second.0, second.1)

count_apart : (version : Version) (m n : ℕ) (x y : List ℕ) →
    count_spelling version m ++ x ≡ count_spelling version n ++ y →
    Apart (count_spelling version m) (count_spelling version n) x y
count_apart One m n x y e = record { front = refl; rest = e }
count_apart Two m n x y e = apart (to_be_bytes w64 m) (to_be_bytes w64 n) x y refl e

-- No spelling of a child entry begins another.
pub child_spellings_apart : (version : Version) → ChildSpellingsApart version
child_spellings_apart version key key' reference reference' count count' x y h k n e =
    let first = key_apart key key' (reference ++ (count_spelling version count ++ x))
    (reference' ++ (count_spelling version count' ++ y)) h k
    (simp append_assoc at e) in
    let second = apart reference reference' (count_spelling version count ++ x)
    (count_spelling version count' ++ y) n first.rest in
    let third = count_apart version count count' x y second.rest in
    (first.front, second.front, third.front, third.rest)

-- ---- what stands where in a spelling

-- The first two bytes of a spelled key tell its length.
pub found_key : (key rest : List ℕ) → length key ≤ 1024 →
    key_length (key_spelling key ++ rest) ≡ length key
found_key key rest h = from_be_bytes-to_be_bytes_2 (length key) (omega arith)

-- Behind a spelled key comes what follows it.
pub after_two : (key rest : List ℕ) (n : ℕ) → n ≡ length key →
    drop (2 + n) (key_spelling key ++ rest) ≡ rest
after_two key rest n e = sym (drop-drop n 2 (key_spelling key ++ rest)) ∙
    (ap (λ k. drop k (key ++ rest)) e ∙ drop_seam key rest)
  where
    drop_seam : (xs ys : List ℕ) → drop (length xs) (xs ++ ys) ≡ ys
    drop_seam [] ys = refl
    drop_seam (x ∷ xs) ys = drop_seam xs ys

-- Behind its length stands the key.
pub key_there : (key rest : List ℕ) (n : ℕ) → n ≡ length key →
    take n (drop 2 (key_spelling key ++ rest)) ≡ key
key_there key rest n e = ap (λ k. take k (key ++ rest)) e ∙ take-append_seam key rest

-- A spelled key takes two bytes more than the key.
pub key_size : (key : List ℕ) → length (key_spelling key) ≡ 2 + length key
key_size key = length-append (to_be_bytes w16 (length key)) key

-- The number that stands for the length of a value.
abbrev pub value_number : Option (List ℕ) → ℕ
value_number None = 0xFFFF_FFFF
value_number (Some v) = length v

-- How many bytes a value takes.
abbrev pub value_size : Option (List ℕ) → ℕ
value_size None = 0
value_size (Some v) = length v

-- The bytes tell the lengths of the key and of the value of a record, and its key, and hold its
-- value.
pub record Numbers (r : Record) (bytes : List ℕ) : Type 0 where
  pub key : key_length bytes ≡ length r.key
  pub value : value_length bytes ≡ value_number r.value
  pub there : take (key_length bytes) (drop 2 bytes) ≡ r.key
  pub len : 6 + length r.key + value_size r.value ≤ length bytes

number_found : (value : Option (List ℕ)) (more : List ℕ) → IsChange value →
    from_be_bytes w32 (take 4 (change_spelling value ++ more)) ≡ value_number value
number_found None more h = from_be_bytes-to_be_bytes_4 0xFFFF_FFFF (omega arith)
number_found (Some v) more h = from_be_bytes-to_be_bytes_4 (length v) (omega arith)

-- How many bytes what a record says of its key takes.
pub change_size : (value : Option (List ℕ)) → length (change_spelling value) ≡ 4 + value_size value
change_size None = refl
change_size (Some v) = length-append (to_be_bytes w32 (length v)) v

-- How many bytes a record takes.
pub record_size : (r : Record) → length (record_spelling r) ≡ 6 + length r.key + value_size r.value
record_size r = length-append (key_spelling r.key) (change_spelling r.value) ∙
    omega (arith, key_size r.key, change_size r.value)

spelled_after : (r : Record) (more : List ℕ) → record_spelling r ++ more ≡ key_spelling r.key ++
    (change_spelling r.value ++ more)
spelled_after r more = append_assoc (key_spelling r.key) (change_spelling r.value) more

numbers_at : (r : Record) (more : List ℕ) → IsRecord r →
    Numbers r (key_spelling r.key ++ (change_spelling r.value ++ more))
numbers_at r more h =
    let bytes : List ℕ = key_spelling r.key ++ (change_spelling r.value ++ more) in
    let k = found_key r.key (change_spelling r.value ++ more) h.key in record {
      key = k;
      value = ap (λ (t : List ℕ). from_be_bytes w32 (take 4 t))
          (after_two r.key (change_spelling r.value ++ more) (key_length bytes) k) ∙
          number_found r.value more h.value;
      there = key_there r.key (change_spelling r.value ++ more) (key_length bytes) k;
      len = omega (
        arith,
        length-append (key_spelling r.key) (change_spelling r.value ++ more),
        length-append (change_spelling r.value) more,
        key_size r.key,
        change_size r.value,
      );
    }

-- Bytes that a record begins tell its lengths and its key.
pub numbers : (r : Record) (more bytes : List ℕ) → IsRecord r → bytes ≡ record_spelling r ++ more →
    Numbers r bytes
numbers r more bytes h e = subst (λ b. Numbers r b) (sym (e ∙ spelled_after r more))
    (numbers_at r more h)
