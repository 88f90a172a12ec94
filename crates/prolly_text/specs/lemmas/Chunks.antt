-- A chunk of bytes that are not all UTF-8 has an invalid part, and no bytes have no text.
use Rattle.std.proofs.Common.{◌≡◌, ℕ, suc, ◌+◌, ◌<◌, ◌≤◌, Bool, true, false, cond, ◌==◌, Option}
use Rattle.std.proofs.Common.{Some, None, List, [], length, drop, unwrap_or, inl, inr, arith, refl}
use Rattle.std.proofs.Common.{length-drop, zero}
use Rattle.std.proofs.Math.Seq.{take-nil, drop-nil}
use Rattle.std.specs.Prelude.{nat_lt, slice_index}
use Rattle.std.specs.Int.{is_in_range}
use Rattle.std.specs.Str.Lossy.{after_first_chunk, error_len_after_one, error_len_after_two}
use Rattle.std.specs.Str.Lossy.{error_len_of_some, second_byte_max, second_byte_min, utf8_error_len}
use Rattle.std.specs.Str.Lossy.{utf8_invalid_len, utf8_valid_len}
use Rattle.std.proofs.lemmas.Bool.{cases_lt}
use Rattle.std.proofs.lemmas.Str.{chars-nil}
use Rattle.prolly_text.specs.Escapes.{text_within}

either : {A : Type 0} (P : A → Type 0) (b : Bool) (x y : A) → P x → P y → P (cond b x y)
either P true x y h k = h
either P false x y h k = k

-- An invalid sequence has a byte, where there is one.
invalid_some : (bytes : List ℕ) → 0 < length bytes → 0 < utf8_invalid_len bytes
unfolding utf8_error_len
invalid_some bytes some =
    let Holds : Option ℕ → Type 0 = λ told. 0 < unwrap_or told (length bytes) in
    let one : Holds (Some 1) = omega arith in
    let two : Holds (Some 2) = omega arith in
    let three : Holds (Some 3) = omega arith in
    let first = slice_index bytes 0 in
    let third = is_in_range 0x80 0xBF (slice_index bytes 2) in
    let second = is_in_range (second_byte_min first) (second_byte_max first) (slice_index bytes 1)
    in
    let of_three = cond (nat_lt (length bytes) 4) None (Some 3) in
    let after_three : Holds of_three = either Holds (nat_lt (length bytes) 4) None (Some 3) some
    three
    in
    let after_two : Holds (error_len_after_two bytes) = either Holds (nat_lt (length bytes) 3) None
    (cond third of_three (Some 2)) some (either Holds third of_three (Some 2) after_three two) in
    let after_one : Holds (error_len_after_one bytes) = either Holds (nat_lt (length bytes) 2) None
    (cond second (error_len_after_two bytes) (Some 1)) some
    (either Holds second (error_len_after_two bytes) (Some 1) after_two one) in
    either Holds (length bytes == 0) None (error_len_of_some bytes) some
    (either Holds (is_in_range 0xC2 0xF4 first) (error_len_after_one bytes) (Some 1) after_one one)

-- Behind the first chunk are fewer bytes.
pub less_behind : (k : ℕ) (bytes : List ℕ) → length bytes ≤ suc k → 0 < length bytes →
    length (after_first_chunk bytes) ≤ k
less_behind k bytes n some =
    let shown = utf8_valid_len bytes in
    let invalid = utf8_invalid_len (drop shown bytes) in
    elim (cases_lt shown (length bytes)) [
      | inl within ↦
          let more = invalid_some (drop shown bytes) (omega (arith, length-drop shown bytes)) in
          omega (arith, length-drop (shown + invalid) bytes, length-drop shown bytes)
      | inr all ↦ omega (arith, length-drop (shown + invalid) bytes)
    ]

-- No bytes have no text.
pub text_nil : (k : ℕ) → text_within k [] ≡ []
text_nil zero = refl
text_nil (suc k) =
    let shown = utf8_valid_len [] in
    let behind = utf8_invalid_len (drop shown []) in
    rw (
      take-nil shown,
      drop-nil shown,
      take-nil (utf8_invalid_len []),
      drop-nil (shown + utf8_invalid_len []),
      chars-nil,
    ) (text_nil k)
