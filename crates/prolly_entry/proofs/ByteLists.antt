-- Bytes cut in pieces, and the key that they begin with.
use Rattle.std.proofs.Common.{◌≡◌, ℕ, ◌+◌, ◌<◌, ◌≤◌, List, ◌++◌, length, take, drop, get_or, All}
use Rattle.std.proofs.Common.{inl, inr, sym, ap, ◌∙◌, arith, append_assoc, length-drop}
use Rattle.std.proofs.lemmas.Bool.{cases_lt}
use Rattle.std.proofs.lemmas.List.{take-append-drop, drop-drop, length-take, length-take-le}
use Rattle.std.proofs.lemmas.List.{get_or-drop, get_or-take, get_or_past}
use Rattle.std.proofs.lemmas.List.Elements.{All-get_or}
use Rattle.std.proofs.lemmas.Nat.{be_bytes_2}
use Rattle.std.specs.Int.{w16, to_be_bytes}
use Rattle.prolly_entry.specs.Byte.{IsByte}
use Rattle.prolly_entry.specs.Spelling.{key_spelling}
use Rattle.prolly_entry.specs.Reading.{key_length}

-- Each number of the list is a byte.
abbrev pub AreBytes : List ℕ → Type 0
AreBytes bytes = (i : ℕ) → get_or bytes i 0 < 256

pub AreBytes-from_All : (bytes : List ℕ) → All IsByte bytes → AreBytes bytes
AreBytes-from_All bytes h i =
    elim (cases_lt i (length bytes)) [
      | inl lt ↦ All-get_or IsByte bytes i 0 lt h
      | inr le ↦ rw (get_or_past bytes i 0 le) (omega arith)
    ]

pub AreBytes-drop : (n : ℕ) (bytes : List ℕ) → AreBytes bytes → AreBytes (drop n bytes)
AreBytes-drop n bytes h i = rw get_or-drop (h (n + i))

pub AreBytes-take : (n : ℕ) (bytes : List ℕ) → AreBytes bytes → AreBytes (take n bytes)
AreBytes-take n bytes h i =
    elim (cases_lt i n) [
      | inl lt ↦ rw (get_or-take n bytes i 0 lt) (h i)
      | inr le ↦ rw (get_or_past (take n bytes) i 0 (omega (arith, length-take n bytes)))
          (omega arith)
    ]

-- The bytes behind offset a, cut once more.
pub cut_at : (a b : ℕ) (bytes : List ℕ) → drop a bytes ≡ take b (drop a bytes) ++ drop (a + b) bytes
cut_at a b bytes = sym (take-append-drop b (drop a bytes)) ∙
    ap (λ (t : List ℕ). take b (drop a bytes) ++ t) (drop-drop b a bytes)

-- As many bytes as are cut from there, where they are there.
pub length_of_cut : (a b : ℕ) (bytes : List ℕ) → a + b ≤ length bytes →
    length (take b (drop a bytes)) ≡ b
length_of_cut a b bytes h = length-take-le b (drop a bytes) (omega (arith, length-drop a bytes))

-- A key lies in front of bytes that hold the whole of it.
pub key_is_spelled : (bytes : List ℕ) (n : ℕ) → AreBytes bytes → n ≡ key_length bytes →
    2 + n ≤ length bytes →
    bytes ≡ key_spelling (take n (drop 2 bytes)) ++ drop (2 + n) bytes
key_is_spelled bytes n h e w =
    let key = take n (drop 2 bytes) in
    let two : to_be_bytes w16 n ≡ take 2 bytes =
    be_bytes_2 (take 2 bytes) n (length_of_cut 0 2 bytes (omega arith))
    (AreBytes-take 2 bytes h) e in
    cut_at 0 2 bytes
    ∙ (ap (λ (t : List ℕ). take 2 bytes ++ t) (cut_at 2 n bytes)
    ∙ (ap (λ (t : List ℕ). t ++ (key ++ drop (2 + n) bytes)) (sym two)
    ∙ (ap (λ k. to_be_bytes w16 k ++ (key ++ drop (2 + n) bytes)) (sym (length_of_cut 2 n bytes w))
    ∙ sym (append_assoc (to_be_bytes w16 (length key)) key (drop (2 + n) bytes)))))
