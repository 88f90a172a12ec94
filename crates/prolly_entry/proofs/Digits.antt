-- The digits of a number in base 32, and their characters.
use Rattle.std.proofs.Common.{◌≡◌, ℕ, zero, suc, ◌+◌, ◌*◌, ◌/◌, ◌%◌, ◌^◌, ◌<◌, ◌≤◌, [], ◌∷◌, ◌++◌}
use Rattle.std.proofs.Common.{length, ◌⊎◌, inl, inr, cond, ltb, eqb, true, All, add-one, refl, sym}
use Rattle.std.proofs.Common.{◌∙◌, arith}
use Rattle.std.proofs.lemmas.Bool.{agree_below_at, eqb-true, cases_lt}
use Rattle.std.proofs.lemmas.Bool.Decides.{nat_tests}
use Rattle.std.proofs.lemmas.List.{append_assoc, append-nil, length_push, same_from_push}
use Rattle.std.proofs.lemmas.List.Elements.{All-nil, All-push}
use Rattle.std.proofs.lemmas.Nat.{div-mul-add, mod-mul-add, div_below}
use Rattle.std.proofs.Math.Nat.{pow-suc}
use Rattle.prolly_entry.specs.Reference.{character, characters, IsCharacter}

-- a digit's character by its code: the figures come first, and then the letters
abbrev code_of : ℕ → ℕ
code_of digit = cond (ltb digit 10) (48 + digit) (87 + digit)

pub character-code : (digit : ℕ) → digit < 32 → character digit ≡ code_of digit
character-code digit below =
    eqb-true _ _ (agree_below_at (λ d. eqb (character d) (code_of d)) (λ _. true) 32 digit refl
    below)

pub character-figure : (digit : ℕ) → digit < 10 → character digit ≡ 48 + digit
character-figure digit below =
    let code = character-code digit (omega arith) in grind (arith, nat_tests, code)

pub character-letter : (digit : ℕ) → 10 ≤ digit → digit < 32 → character digit ≡ 87 + digit
character-letter digit above below =
    let code = character-code digit below in grind (arith, nat_tests, code)

-- two digits with one character are the same
pub same_digit : (first second : ℕ) → first < 32 → second < 32 →
    character first ≡ character second → first ≡ second
same_digit first second first_below second_below same =
    let first_code = character-code first first_below in
    let second_code = character-code second second_below in
    grind (arith, nat_tests, first_code, second_code, same)

pub length-characters : (n number : ℕ) → length (characters n number) ≡ n
length-characters zero number = refl
length-characters (suc n) number =
    length_push (characters n (number / 32)) (character (number % 32)) ∙
    omega (arith, length-characters n (number / 32))

pub All-characters : (n number : ℕ) → All IsCharacter (characters n number)
All-characters zero number = All-nil IsCharacter
All-characters (suc n) number =
    let last : IsCharacter (character (number % 32)) =
    record { digit = number % 32; below = omega arith; written = refl } in
    All-push IsCharacter (characters n (number / 32)) (character (number % 32))
    (All-characters n (number / 32)) last

-- one digit more
pub characters_more : (n number digit : ℕ) → digit < 32 → characters (n + 1) (number * 32 + digit) ≡
    characters n number ++ character digit ∷ []
characters_more n number digit below =
    rw (add-one, div-mul-add number 32 digit below, mod-mul-add number 32 digit below) refl

-- the digits above the last
above_last-lt : (n number : ℕ) → number < 32 ^ suc n → number / 32 < 32 ^ n
above_last-lt n number below = div_below number 32 (32 ^ n) (omega arith)
    (omega (arith, pow-suc 32 n))

-- the low digits stand last, whatever is above them
pub characters-append : (m n high low : ℕ) → low < 32 ^ n
    → characters (m + n) (high * 32 ^ n + low) ≡ characters m high ++ characters n low
characters-append m zero high low below =
    let none : high * 32 ^ 0 + low ≡ high = omega arith in
    let front : m + 0 ≡ m = omega arith in
    rw (none, front) (sym (append-nil (characters m high)))
characters-append m (suc n) high low below =
    let above = high * 32 ^ n + low / 32 in
    let count : m + suc n ≡ (m + n) + 1 = omega arith in
    let number : high * 32 ^ suc n + low ≡ above * 32 + low % 32 =
    rw (pow-suc 32 n) (omega arith) in
    let more = characters_more (m + n) above (low % 32) (omega arith) in
    let front = characters-append m n high (low / 32) (above_last-lt n low below) in
    let joined = append_assoc (characters m high) (characters n (low / 32))
    (character (low % 32) ∷ []) in
    rw (count, number, more, front) joined

-- two numbers with the same digits are the same
pub same_number : (n first second : ℕ) → first < 32 ^ n → second < 32 ^ n →
    characters n first ≡ characters n second → first ≡ second
same_number zero first second first_below second_below same = omega arith
same_number (suc n) first second first_below second_below same =
    let pushed = same_from_push (characters n (first / 32)) (characters n (second / 32)) _ _ same in
    let first_above = above_last-lt n first first_below in
    let second_above = above_last-lt n second second_below in
    let above = same_number n (first / 32) (second / 32) first_above second_above pushed.0 in
    let last = same_digit (first % 32) (second % 32) (omega arith) (omega arith) pushed.1 in
    omega (arith, above, last)

-- the codes of the figures, and of the letters up to v
abbrev IsInAlphabet : ℕ → Type 0
IsInAlphabet byte = ((48 ≤ byte) × (byte ≤ 57)) ⊎ ((97 ≤ byte) × (byte ≤ 118))

pub character_range : (byte : ℕ) → IsCharacter byte → IsInAlphabet byte
character_range byte is =
    elim (cases_lt is.digit 10) as (λ _. IsInAlphabet byte) [
      | inl low ↦
          let code = character-figure is.digit low in
          inl (omega (arith, is.written, code), omega (arith, is.written, code))
      | inr high ↦
          let code = character-letter is.digit high is.below in
          inr (omega (arith, is.written, code), omega (arith, is.written, code))
    ]
