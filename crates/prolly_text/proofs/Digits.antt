-- Two hexadecimal digits behind `\x`.
use Rattle.std.proofs.Common.{◌≡◌, ℕ, List, [], ◌∷◌, ◌++◌, Result, Ok, Err, length, refl, sym, ap}
use Rattle.std.proofs.Common.{◌∙◌, arith, slice_index_or, ◌<◌, length-append}
use Rattle.std.specs.Prelude.{MatchResult}
use Rattle.hex.specs.Hex.{decode_of, decode_sized}
use Rattle.hex.specs.declared.error.FromHexError.{FromHexError}
use Rattle.hex.proofs.HexLemmas.{decode_of-ok, decode_sized-twice}
use Rattle.prolly_entry.specs.lemmas.Lists.{apart}
use Rattle.prolly_text.specs.Pieces.{BeginsWithNone}
use Rattle.prolly_text.specs.lemmas.Fronts.{none_of_digits}

-- What reading digits into a byte tells.
abbrev pub IsRead : List ℕ → Result Unit FromHexError → List ℕ → Type 0
IsRead digits told out = MatchResult (decode_sized digits 1)
    (λ bytes. (told ≡ Ok tt) × (out ≡ bytes)) (λ e. told ≡ Err e)

one_byte : (digits bytes : List ℕ) → length digits ≡ 2 → decode_of digits ≡ Ok bytes →
    bytes ≡ slice_index_or bytes 0 0 ∷ []
one_byte digits [] n h =
    let long = (decode_of-ok digits [] h).2 in absurd (omega arith)
one_byte digits (b ∷ []) n h = refl
one_byte digits (b ∷ c ∷ bytes) n h =
    let long = (decode_of-ok digits (b ∷ c ∷ bytes) h).2 in absurd (omega arith)

pub digits_read : (digits out : List ℕ) (told : Result Unit FromHexError) (done : Unit) →
    length digits ≡ 2 → IsRead digits told out → told ≡ Ok done →
    decode_of digits ≡ Ok (slice_index_or out 0 0 ∷ [])
digits_read digits out told done n h e = go (decode_sized digits 1) refl h
  where
    go : (d : Result (List ℕ) FromHexError) → decode_sized digits 1 ≡ d →
        MatchResult d (λ bytes. (told ≡ Ok tt) × (out ≡ bytes)) (λ f. told ≡ Err f) →
        decode_of digits ≡ Ok (slice_index_or out 0 0 ∷ [])
    go (Ok bytes) f k =
        let read : decode_of digits ≡ Ok bytes = sym (decode_sized-twice digits 1 n) ∙ f in
        read ∙ ap Ok (one_byte digits bytes n read ∙
        ap (λ b. b ∷ []) (ap (λ bs. slice_index_or bs 0 0) (sym k.1)))
    go (Err f) g k = let none : Ok done ≡ Err f = sym e ∙ k in cc

pub digits_unread : (digits out : List ℕ) (told : Result Unit FromHexError) (fault : FromHexError)
    (byte : ℕ) → length digits ≡ 2 → IsRead digits told out → told ≡ Err fault →
    decode_of digits ≡ Ok (byte ∷ []) → ⊥
digits_unread digits out told fault byte n h e read = go (decode_sized digits 1) refl h
  where
    go : (d : Result (List ℕ) FromHexError) → decode_sized digits 1 ≡ d →
        MatchResult d (λ bytes. (told ≡ Ok tt) × (out ≡ bytes)) (λ f. told ≡ Err f) → ⊥
    go (Ok bytes) f k = let none : Err fault ≡ Ok tt = sym e ∙ k.0 in cc
    go (Err f) g k =
        let none : Ok (byte ∷ []) ≡ Err f = sym read ∙ sym (decode_sized-twice digits 1 n) ∙ g in cc

-- The two bytes in front of a text are no digits.
pub none_here : (text digits behind out : List ℕ) (told : Result Unit FromHexError)
    (fault : FromHexError) → text ≡ digits ++ behind → length digits ≡ 2 →
    IsRead digits told out → told ≡ Err fault → BeginsWithNone (0x5C ∷ 0x78 ∷ text)
none_here text digits behind out told fault whole n h e = none_of_digits text
    (λ others rest byte f m read.
    let same = apart others digits rest behind (m ∙ sym n) (sym f ∙ whole) in
    digits_unread digits out told fault byte n h e (sym (ap decode_of same.front) ∙ read))

-- There are less than two bytes.
pub none_so_short : (text : List ℕ) → length text < 2 → BeginsWithNone (0x5C ∷ 0x78 ∷ text)
none_so_short text short = none_of_digits text
    (λ others rest byte f m read. omega (arith, ap length f, length-append others rest))
