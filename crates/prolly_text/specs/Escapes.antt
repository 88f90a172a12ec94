-- How bytes are written as text: characters as they are, and backslash escapes. (They are those of
-- PostgreSQL's COPY.)
use Rattle.std.specs.Prelude.{ℕ, zero, suc, List, [], ◌∷◌, ◌++◌, Option, Some, None, length, take}
use Rattle.std.specs.Prelude.{Bool, drop, ◌==◌, ◌||◌, if◌then◌else◌}
use Rattle.std.specs.Char.{encode_utf8, is_control}
use Rattle.std.specs.List.{flat_map}
use Rattle.std.specs.Str.{chars}
use Rattle.std.specs.Str.Lossy.{utf8_valid_len, utf8_invalid_len, after_first_chunk}
use Rattle.hex.specs.Hex.{encode_lower}

-- The letter that stands behind a backslash for this character, if one does: b, t, n, v, f and r
-- for the control characters that have a name, and the backslash for itself.
abbrev pub letter_of : ℕ → Option ℕ
letter_of character =
    if character == 0x08 then Some 0x62
    else if character == 0x09 then Some 0x74
    else if character == 0x0A then Some 0x6E
    else if character == 0x0B then Some 0x76
    else if character == 0x0C then Some 0x66
    else if character == 0x0D then Some 0x72
    else if character == 0x5C then Some 0x5C
    else None

-- A byte as `\x` and its two digits, in lower case.
abbrev pub hex_escape : ℕ → List ℕ
hex_escape byte = 0x5C ∷ 0x78 ∷ encode_lower (byte ∷ [])

-- A character that nobody sees: a control character (below 20, or 7F to 9F), and the byte order
-- mark.
abbrev pub is_hidden : ℕ → Bool
is_hidden character = is_control character || character == 0xFEFF

-- A character that has no letter: a hidden one as the digits of its bytes, and every other one as
-- it stands.
abbrev pub shown_plain : ℕ → List ℕ
shown_plain character =
    if is_hidden character then flat_map hex_escape (encode_utf8 character)
    else encode_utf8 character

-- A character whose letter this is: a backslash and the letter; or one that has no letter.
abbrev pub shown_by : ℕ → Option ℕ → List ℕ
shown_by character (Some letter) = 0x5C ∷ letter ∷ []
shown_by character None = shown_plain character

-- A character: a backslash and its letter where it has one, else as one that has none.
abbrev pub shown_character : ℕ → List ℕ
shown_character character = shown_by character (letter_of character)

-- The text of bytes that have at most so many chunks. A chunk is the longest front that is UTF-8,
-- whose characters are shown, and the bytes behind it that can't begin a character or go on with one, which are
-- escaped: the same ones for which `from_utf8_lossy` puts a replacement character.
abbrev pub text_within : ℕ → List ℕ → List ℕ
text_within zero bytes = []
text_within (suc chunks) bytes =
    let shown = utf8_valid_len bytes in
    let behind = drop shown bytes in
    flat_map shown_character (chars (take shown bytes)) ++
    (flat_map hex_escape (take (utf8_invalid_len behind) behind) ++
    text_within chunks (after_first_chunk bytes))

-- The text of the bytes.
unfoldable pub text_of : List ℕ → List ℕ
text_of bytes = text_within (length bytes) bytes
