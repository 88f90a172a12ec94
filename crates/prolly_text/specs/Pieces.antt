-- What a text stands for, piece by piece. (The escapes are those of PostgreSQL's COPY.)
use Rattle.std.specs.Prelude.{◌≡◌, ◌⊎◌, ℕ, Bool, true, List, [], ◌∷◌, ◌++◌, Option, Some, None}
use Rattle.std.specs.Prelude.{Ok, not, ◌==◌, ◌||◌, if◌then◌else◌}
use Rattle.hex.specs.Hex.{decode_of}

-- The byte stands for itself: it is no backslash, and no tab, newline or carriage return, which end
-- a column or a line.
abbrev pub is_plain : ℕ → Bool
is_plain byte = not (byte == 0x5C || byte == 0x09 || byte == 0x0A || byte == 0x0D)

-- The byte for which a letter stands behind a backslash.
abbrev pub named_byte : ℕ → Option ℕ
named_byte letter =
    if letter == 0x62 then Some 0x08
    else if letter == 0x74 then Some 0x09
    else if letter == 0x6E then Some 0x0A
    else if letter == 0x76 then Some 0x0B
    else if letter == 0x66 then Some 0x0C
    else if letter == 0x72 then Some 0x0D
    else if letter == 0x5C then Some 0x5C
    else None

-- The piece stands for the byte: it is the byte itself, a backslash and a letter, or `\x` and two
-- hexadecimal digits.
abbrev pub IsPiece : List ℕ → ℕ → Type 0
IsPiece piece byte =
    ((piece ≡ byte ∷ []) × (is_plain byte ≡ true))
    ⊎ ((letter : ℕ) × (piece ≡ 0x5C ∷ letter ∷ []) × (named_byte letter ≡ Some byte))
    ⊎ ((digits : List ℕ) × (piece ≡ 0x5C ∷ 0x78 ∷ digits) × (decode_of digits ≡ Ok (byte ∷ [])))

-- The text begins with a piece that stands for the byte, and this is behind it.
pub record HasPiece (text : List ℕ) (byte : ℕ) (behind : List ℕ) : Type 0 where
  pub piece : List ℕ
  pub whole : text ≡ piece ++ behind
  pub is : IsPiece piece byte

-- The text begins with no piece.
abbrev pub BeginsWithNone : List ℕ → Type 0
BeginsWithNone text = (byte : ℕ) (behind : List ℕ) → HasPiece text byte behind → ⊥

-- The text begins with a piece for each of the bytes, in their order, and this is behind them.
abbrev pub BeginsWithAll : List ℕ → List ℕ → List ℕ → Type 0
BeginsWithAll text [] behind = text ≡ behind
BeginsWithAll text (byte ∷ bytes) behind =
    (rest : List ℕ) × HasPiece text byte rest × BeginsWithAll rest bytes behind

-- The text is the pieces of the bytes, and nothing else.
abbrev pub IsTextOf : List ℕ → List ℕ → Type 0
IsTextOf text bytes = BeginsWithAll text bytes []
