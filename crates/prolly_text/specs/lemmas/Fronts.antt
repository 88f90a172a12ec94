-- The first piece of a text: there is one at most.
use Rattle.std.proofs.Common.{◌≡◌, ◌⊎◌, inl, inr, ℕ, true, false, List, [], ◌∷◌, ◌++◌}
use Rattle.std.proofs.Common.{Some, None, Ok, length, refl, sym, ap, ◌∙◌}
use Rattle.hex.specs.Hex.{decode_of}
use Rattle.hex.proofs.HexLemmas.{decode_of-ok, decode_of-same}
use Rattle.prolly_entry.specs.lemmas.Lists.{apart}
use Rattle.prolly_text.specs.Pieces.{is_plain, named_byte, IsPiece, HasPiece, BeginsWithNone}

-- What stands at the front of a text that begins with a piece of the byte.
abbrev pub IsFront : ℕ → List ℕ → ℕ → List ℕ → Type 0
IsFront first after byte behind =
    ((first ≡ byte) × (is_plain byte ≡ true) × (after ≡ behind))
    ⊎ ((letter : ℕ) × (first ≡ 0x5C) × (after ≡ letter ∷ behind) × (named_byte letter ≡ Some byte))
    ⊎ ((digits : List ℕ) × (first ≡ 0x5C) × (after ≡ 0x78 ∷ digits ++ behind)
    × (decode_of digits ≡ Ok (byte ∷ [])))

front_of : (first : ℕ) (after : List ℕ) (byte : ℕ) (behind piece : List ℕ) →
    first ∷ after ≡ piece ++ behind → IsPiece piece byte → IsFront first after byte behind
front_of first after byte behind piece e (inl h) =
    let whole : first ∷ after ≡ byte ∷ behind = e ∙ ap (λ t. t ++ behind) h.0 in
    inl (cc, h.1, cc)
front_of first after byte behind piece e (inr (inl h)) =
    let whole : first ∷ after ≡ 0x5C ∷ h.0 ∷ behind = e ∙ ap (λ t. t ++ behind) h.1 in
    inr (inl (h.0, cc, cc, h.2))
front_of first after byte behind piece e (inr (inr h)) =
    let whole : first ∷ after ≡ 0x5C ∷ 0x78 ∷ h.0 ++ behind = e ∙ ap (λ t. t ++ behind) h.1 in
    inr (inr (h.0, cc, cc, h.2))

pub front : (first : ℕ) (after : List ℕ) (byte : ℕ) (behind : List ℕ) →
    HasPiece (first ∷ after) byte behind → IsFront first after byte behind
front first after byte behind h = front_of first after byte behind h.piece h.whole h.is

-- Two hexadecimal digits are what stands for one byte.
two_digits : (digits : List ℕ) (byte : ℕ) → decode_of digits ≡ Ok (byte ∷ []) → length digits ≡ 2
two_digits digits byte h = (decode_of-ok digits (byte ∷ []) h).2

-- ---- texts that begin with a piece

pub begins_plain : (byte : ℕ) (behind : List ℕ) → is_plain byte ≡ true →
    HasPiece (byte ∷ behind) byte behind
begins_plain byte behind h =
    record { piece = byte ∷ []; whole = refl; is = inl (refl, h) }

pub begins_named : (letter byte : ℕ) (behind : List ℕ) → named_byte letter ≡ Some byte →
    HasPiece (0x5C ∷ letter ∷ behind) byte behind
begins_named letter byte behind h =
    record { piece = 0x5C ∷ letter ∷ []; whole = refl; is = inr (inl (letter, refl, h)) }

pub begins_digits : (digits : List ℕ) (byte : ℕ) (text behind : List ℕ) →
    text ≡ digits ++ behind → decode_of digits ≡ Ok (byte ∷ []) →
    HasPiece (0x5C ∷ 0x78 ∷ text) byte behind
begins_digits digits byte text behind e h = record {
  piece = 0x5C ∷ 0x78 ∷ digits;
  whole = ap (λ t. 0x5C ∷ 0x78 ∷ t) e;
  is = inr (inr (digits, refl, h));
}

-- ---- texts that begin with none

no_empty : (byte : ℕ) (behind piece : List ℕ) → [] ≡ piece ++ behind → IsPiece piece byte → ⊥
no_empty byte behind piece e (inl h) =
    let whole : [] ≡ byte ∷ behind = e ∙ ap (λ t. t ++ behind) h.0 in cc
no_empty byte behind piece e (inr (inl h)) =
    let whole : [] ≡ 0x5C ∷ h.0 ∷ behind = e ∙ ap (λ t. t ++ behind) h.1 in cc
no_empty byte behind piece e (inr (inr h)) =
    let whole : [] ≡ 0x5C ∷ 0x78 ∷ h.0 ++ behind = e ∙ ap (λ t. t ++ behind) h.1 in cc

pub none_of_nothing : BeginsWithNone []
none_of_nothing byte behind h = no_empty byte behind h.piece h.whole h.is

-- What is behind `\x` does not begin with two digits.
pub none_of_digits : (after : List ℕ) →
    ((digits behind : List ℕ) (byte : ℕ) → after ≡ digits ++ behind → length digits ≡ 2 →
    decode_of digits ≡ Ok (byte ∷ []) → ⊥) → BeginsWithNone (0x5C ∷ 0x78 ∷ after)
none_of_digits after none byte behind h = go (front 0x5C (0x78 ∷ after) byte behind h)
  where
    go : IsFront 0x5C (0x78 ∷ after) byte behind → ⊥
    go (inl k) =
        let bare : false ≡ true = ap is_plain k.0 ∙ k.1 in cc
    go (inr (inl k)) =
        let same : 0x78 ∷ after ≡ k.0 ∷ behind = k.2 in
        let first : 0x78 ≡ k.0 = cc in
        let two : None ≡ Some byte = ap named_byte first ∙ k.3 in cc
    go (inr (inr k)) =
        let same : 0x78 ∷ after ≡ 0x78 ∷ k.0 ++ behind = k.2 in
        none k.0 behind byte (cc) (two_digits k.0 byte k.3) k.3

-- ---- one piece

-- The first piece of a text, and so its byte and what is behind it, is one.
pub record IsSame (byte other : ℕ) (behind rest : List ℕ) : Type 0 where
  pub byte_is : byte ≡ other
  pub rest_is : behind ≡ rest

plain_apart : (first byte : ℕ) → first ≡ byte → is_plain byte ≡ true → first ≡ 0x5C → ⊥
plain_apart first byte e h f = let none : false ≡ true = ap is_plain (sym f ∙ e) ∙ h in cc

letter_apart : (letter byte : ℕ) → named_byte letter ≡ Some byte → letter ≡ 0x78 → ⊥
letter_apart letter byte h e = let none : None ≡ Some byte = ap named_byte (sym e) ∙ h in cc

same_letters : (after behind rest : List ℕ) (letter mark byte other : ℕ) →
    after ≡ letter ∷ behind → after ≡ mark ∷ rest → named_byte letter ≡ Some byte →
    named_byte mark ≡ Some other → IsSame byte other behind rest
same_letters after behind rest letter mark byte other e f h k =
    let whole : letter ∷ behind ≡ mark ∷ rest = sym e ∙ f in
    let first : letter ≡ mark = cc in
    let bytes : Some byte ≡ Some other = sym h ∙ ap named_byte first ∙ k in
    record { byte_is = cc; rest_is = cc }

same_digits : (after behind rest digits others : List ℕ) (byte other : ℕ) →
    after ≡ 0x78 ∷ digits ++ behind → after ≡ 0x78 ∷ others ++ rest →
    decode_of digits ≡ Ok (byte ∷ []) → decode_of others ≡ Ok (other ∷ []) →
    IsSame byte other behind rest
same_digits after behind rest digits others byte other e f h k =
    let whole : 0x78 ∷ digits ++ behind ≡ 0x78 ∷ others ++ rest = sym e ∙ f in
    let parts = apart digits others behind rest
    (two_digits digits byte h ∙ sym (two_digits others other k)) (cc) in
    let bytes : byte ∷ [] ≡ other ∷ [] = decode_of-same others (byte ∷ []) (other ∷ [])
    (sym (ap decode_of parts.front) ∙ h) k in
    record { byte_is = cc; rest_is = parts.rest }

one_front : (first : ℕ) (after : List ℕ) (byte other : ℕ) (behind rest : List ℕ) →
    IsFront first after byte behind → IsFront first after other rest →
    IsSame byte other behind rest
one_front first after byte other behind rest (inl h) (inl k) =
    record { byte_is = sym h.0 ∙ k.0; rest_is = sym h.2 ∙ k.2 }
one_front first after byte other behind rest (inl h) (inr (inl k)) =
    absurd (plain_apart first byte h.0 h.1 k.1)
one_front first after byte other behind rest (inl h) (inr (inr k)) =
    absurd (plain_apart first byte h.0 h.1 k.1)
one_front first after byte other behind rest (inr (inl h)) (inl k) =
    absurd (plain_apart first other k.0 k.1 h.1)
one_front first after byte other behind rest (inr (inr h)) (inl k) =
    absurd (plain_apart first other k.0 k.1 h.1)
one_front first after byte other behind rest (inr (inl h)) (inr (inl k)) =
    same_letters after behind rest h.0 k.0 byte other h.2 k.2 h.3 k.3
one_front first after byte other behind rest (inr (inl h)) (inr (inr k)) =
    let whole : h.0 ∷ behind ≡ 0x78 ∷ k.0 ++ rest = sym h.2 ∙ k.2 in
    absurd (letter_apart h.0 byte h.3 (cc))
one_front first after byte other behind rest (inr (inr h)) (inr (inl k)) =
    let whole : k.0 ∷ rest ≡ 0x78 ∷ h.0 ++ behind = sym k.2 ∙ h.2 in
    absurd (letter_apart k.0 other k.3 (cc))
one_front first after byte other behind rest (inr (inr h)) (inr (inr k)) =
    same_digits after behind rest h.0 k.0 byte other h.2 k.2 h.3 k.3

pub one_piece : (text : List ℕ) (byte other : ℕ) (behind rest : List ℕ) →
    HasPiece text byte behind → HasPiece text other rest → IsSame byte other behind rest
one_piece [] byte other behind rest h k = absurd (none_of_nothing byte behind h)
one_piece (first ∷ after) byte other behind rest h k =
    one_front first after byte other behind rest (front first after byte behind h)
    (front first after other rest k)
