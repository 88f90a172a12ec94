-- The characters at the front of bytes.
use Rattle.std.proofs.Common.{◌≡◌, ℕ, zero, suc, ◌+◌, ◌/◌, ◌%◌, ◌≤◌, Bool, true, false, cond}
use Rattle.std.proofs.Common.{List, [], ◌∷◌, take, length, refl, arith}
use Rattle.std.proofs.lemmas.Str.{IsUtf8-from_is_utf8, IsUtf8-nil, scalars-chars}
use Rattle.std.proofs.Math.Utf8.{scalar}
use Rattle.std.specs.Char.{encode_utf8, IsScalar}
use Rattle.std.specs.List.{AllByRecursion}
use Rattle.std.specs.Prelude.{◌&&◌, nat_lt}
use Rattle.std.specs.Str.{all_scalars, chars, is_utf8, IsUtf8}
use Rattle.std.specs.Str.Lossy.{utf8_valid_len, valid_len_up_to}

-- The longest front that is UTF-8 is UTF-8.
valid_up_to : (bytes : List ℕ) (n : ℕ) → IsUtf8 (take (valid_len_up_to bytes n) bytes)
valid_up_to bytes zero = IsUtf8-nil
valid_up_to bytes (suc n) = go (is_utf8 (take (suc n) bytes)) refl (valid_up_to bytes n)
  where
    go : (test : Bool) → is_utf8 (take (suc n) bytes) ≡ test →
        IsUtf8 (take (valid_len_up_to bytes n) bytes) →
        IsUtf8 (take (cond test (suc n) (valid_len_up_to bytes n)) bytes)
    go true e less = IsUtf8-from_is_utf8 (take (suc n) bytes) e
    go false e less = less

pub valid_front : (bytes : List ℕ) → IsUtf8 (take (utf8_valid_len bytes) bytes)
unfolding utf8_valid_len
valid_front bytes = valid_up_to bytes (length bytes)

both_true : (a b : Bool) → (a && b) ≡ true → (a ≡ true) × (b ≡ true)
both_true true b h = (refl, h)
both_true false b h = let none : false ≡ true = h in cc

-- Each number is the code of a character.
scalars_all : (characters : List ℕ) → all_scalars characters ≡ true →
    AllByRecursion IsScalar characters
scalars_all [] h = tt
scalars_all (c ∷ characters) h =
    let parts = both_true (scalar c) (all_scalars characters) h in
    (parts.0, scalars_all characters parts.1)

pub scalars_of : (bytes : List ℕ) → IsUtf8 bytes → AllByRecursion IsScalar (chars bytes)
scalars_of bytes h = scalars_all (chars bytes) (scalars-chars bytes h)

-- The bytes of a character that is not ASCII are not ASCII.
abbrev AreHigh : List ℕ → Type 0
AreHigh = AllByRecursion (λ b. 0x80 ≤ b)

either : (b : Bool) (x y : List ℕ) → AreHigh x → AreHigh y → AreHigh (cond b x y)
either true x y h k = h
either false x y h k = k

pub high_bytes : (character : ℕ) → 0x80 ≤ character →
    AllByRecursion (λ b. 0x80 ≤ b) (encode_utf8 character)
unfolding encode_utf8
high_bytes character h =
    let last = 128 + character % 64 in
    let third = 128 + character / 64 % 64 in
    let one = character ∷ [] in
    let two = (192 + character / 64) ∷ last ∷ [] in
    let three = (224 + character / 4096) ∷ third ∷ last ∷ [] in
    let four = (240 + character / 262144) ∷ (128 + character / 4096 % 64) ∷ third ∷ last ∷ [] in
    let of_three = cond (nat_lt character 65536) three four in
    let of_two = cond (nat_lt character 2048) two of_three in
    let high_two : AreHigh two = (omega arith, (omega arith, tt)) in
    let high_three : AreHigh three = (omega arith, (omega arith, (omega arith, tt))) in
    let high_four : AreHigh four = (omega arith, (omega arith, (omega arith, (omega arith, tt)))) in
    either (nat_lt character 128) one of_two (h, tt)
    (either (nat_lt character 2048) two of_three high_two
    (either (nat_lt character 65536) three four high_three high_four))
