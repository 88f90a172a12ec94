-- What is written, chunk by chunk and byte by byte.
use Rattle.std.proofs.Common.{◌≡◌, ℕ, zero, suc, ◌<◌, ◌≤◌, List, [], ◌∷◌, ◌++◌, length, take, drop}
use Rattle.std.proofs.Common.{sym, ap, ◌∙◌, arith}
use Rattle.std.proofs.lemmas.List.{take_at, drop_at, drop-drop, nil_from_length}
use Rattle.std.specs.List.{flat_map}
use Rattle.std.specs.Str.{chars}
use Rattle.std.specs.Str.Lossy.{utf8_valid_len, utf8_invalid_len, after_first_chunk}
use Rattle.prolly_text.specs.Escapes.{hex_escape, shown_character, text_of, text_within}
use Rattle.prolly_text.specs.lemmas.Chunks.{less_behind, text_nil}

-- Any number of chunks that is enough gives the same text.
text_any : (j k : ℕ) (bytes : List ℕ) → length bytes ≤ j → length bytes ≤ k →
    text_within j bytes ≡ text_within k bytes
text_any zero k bytes n m =
    let none : bytes ≡ [] = nil_from_length bytes (omega arith) in
    sym (ap (text_within k) none ∙ text_nil k)
text_any (suc j) zero bytes n m =
    let none : bytes ≡ [] = nil_from_length bytes (omega arith) in
    ap (text_within (suc j)) none ∙ text_nil (suc j)
text_any (suc j) (suc k) [] n m = text_nil (suc j) ∙ sym (text_nil (suc k))
text_any (suc j) (suc k) (b ∷ bytes) n m =
    let shown = utf8_valid_len (b ∷ bytes) in
    let behind = drop shown (b ∷ bytes) in
    let same = text_any j k (after_first_chunk (b ∷ bytes))
    (less_behind j (b ∷ bytes) n (omega arith)) (less_behind k (b ∷ bytes) m (omega arith)) in
    ap (λ t. flat_map shown_character (chars (take shown (b ∷ bytes))) ++
    (flat_map hex_escape (take (utf8_invalid_len behind) behind) ++ t)) same

-- The text of bytes that begin with a chunk.
pub text_chunk : (bytes valid invalid rest : List ℕ) → bytes ≡ valid ++ (invalid ++ rest) →
    length valid ≡ utf8_valid_len bytes →
    length invalid ≡ utf8_invalid_len (drop (utf8_valid_len bytes) bytes) →
    length rest < length bytes →
    text_of bytes ≡ flat_map shown_character (chars valid) ++ (flat_map hex_escape invalid ++ text_of rest)
unfolding text_of
text_chunk bytes valid invalid rest whole n m less =
    let shown = utf8_valid_len bytes in
    let behind = drop shown bytes in
    let front : take shown bytes ≡ valid = ap (take shown) whole ∙ take_at valid (invalid ++ rest)
    shown n in
    let back : behind ≡ invalid ++ rest = ap (drop shown) whole ∙ drop_at valid (invalid ++ rest)
    shown n in
    let middle : take (utf8_invalid_len behind) behind ≡ invalid =
    ap (take (utf8_invalid_len behind)) back ∙ take_at invalid rest (utf8_invalid_len behind) m in
    let left : after_first_chunk bytes ≡ rest = sym (drop-drop (utf8_invalid_len behind) shown
    bytes)
    ∙ ap (drop (utf8_invalid_len behind)) back ∙ drop_at invalid rest (utf8_invalid_len behind) m in
    let enough = length bytes in
    let parts : text_within (suc enough) bytes ≡
    flat_map shown_character (chars valid) ++ (flat_map hex_escape invalid ++ text_within enough rest) =
    ap (λ t. flat_map shown_character (chars t) ++ (flat_map hex_escape
    (take (utf8_invalid_len behind) behind) ++
    text_within enough (after_first_chunk bytes))) front ∙
    ap (λ t. flat_map shown_character (chars valid) ++ (flat_map hex_escape t ++
    text_within enough (after_first_chunk bytes))) middle ∙
    ap (λ t. flat_map shown_character (chars valid) ++ (flat_map hex_escape invalid ++
    text_within enough t)) left in
    text_any enough (suc enough) bytes (omega arith) (omega arith) ∙ parts ∙
    ap (λ t. flat_map shown_character (chars valid) ++ (flat_map hex_escape invalid ++ t))
    (text_any enough (length rest) rest (omega arith) (omega arith))

pub text_of_none : (bytes : List ℕ) → length bytes ≡ 0 → text_of bytes ≡ []
unfolding text_of
text_of_none bytes none = ap text_of (nil_from_length bytes none)
