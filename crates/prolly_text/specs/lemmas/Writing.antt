-- What is written as text stands for its bytes, and shows.
use Rattle.std.proofs.Common.{◌≡◌, ℕ, zero, suc, ◌≤◌, List, [], ◌∷◌, ◌++◌, length, take, drop}
use Rattle.std.proofs.Common.{sym, ap, ◌∙◌, subst, arith}
use Rattle.std.proofs.lemmas.List.{take-append-drop, drop-drop}
use Rattle.std.specs.List.{flat_map, AllByRecursion}
use Rattle.std.specs.Str.{chars}
use Rattle.std.specs.Str.Lossy.{utf8_valid_len, utf8_invalid_len, after_first_chunk}
use Rattle.prolly_entry.specs.Byte.{IsByte}
use Rattle.prolly_entry.specs.lemmas.Lists.{all_back, all_front}
use Rattle.prolly_text.specs.Escapes.{hex_escape, shown_character, text_of, text_within}
use Rattle.prolly_text.specs.lemmas.Characters.{valid_front}
use Rattle.prolly_text.specs.lemmas.Chunks.{less_behind, text_nil}
use Rattle.prolly_text.specs.lemmas.Spelled.{IsSpelled, both_spelled, escapes_spelled}
use Rattle.prolly_text.specs.lemmas.Spelled.{nothing_spelled, text_spells, valid_spelled}

-- Bytes are their first chunk and what is behind it.
chunk_parts : (bytes : List ℕ) →
    let shown = utf8_valid_len bytes in
    let behind = drop shown bytes in
    bytes ≡ take shown bytes ++ (take (utf8_invalid_len behind) behind ++ after_first_chunk bytes)
chunk_parts bytes =
    let shown = utf8_valid_len bytes in
    let behind = drop shown bytes in
    sym (take-append-drop shown bytes) ∙ ap (λ t. take shown bytes ++ t)
    (sym (take-append-drop (utf8_invalid_len behind) behind) ∙
    ap (λ t. take (utf8_invalid_len behind) behind ++ t)
    (drop-drop (utf8_invalid_len behind) shown bytes))

within_spelled : (k : ℕ) (bytes : List ℕ) → length bytes ≤ k → AllByRecursion IsByte bytes →
    IsSpelled (text_within k bytes) bytes
within_spelled zero [] n h = nothing_spelled
within_spelled zero (b ∷ bytes) n h = absurd (omega arith)
within_spelled (suc k) [] n h =
    subst (λ t. IsSpelled t []) (sym (text_nil (suc k))) nothing_spelled
within_spelled (suc k) (b ∷ bytes) n h =
    let all = b ∷ bytes in
    let shown = utf8_valid_len all in
    let behind = drop shown all in
    let valid = take shown all in
    let invalid = take (utf8_invalid_len behind) behind in
    let rest = after_first_chunk all in
    let parts = subst (AllByRecursion IsByte) (chunk_parts all) h in
    let more = all_back IsByte valid (invalid ++ rest) parts in
    let first = valid_spelled shown_character text_spells valid (valid_front all)
    (all_front IsByte valid (invalid ++ rest) parts) in
    let second = escapes_spelled invalid (all_front IsByte invalid rest more) in
    let last = within_spelled k rest (less_behind k all n (omega arith))
    (all_back IsByte invalid rest more) in
    subst (IsSpelled (text_within (suc k) all)) (sym (chunk_parts all))
    (both_spelled (flat_map shown_character (chars valid))
    (flat_map hex_escape invalid ++ text_within k rest) valid (invalid ++ rest) first
    (both_spelled (flat_map hex_escape invalid) (text_within k rest) invalid rest second last))

pub text_spelled : (bytes : List ℕ) → AllByRecursion IsByte bytes → IsSpelled (text_of bytes) bytes
unfolding text_of
text_spelled bytes h = within_spelled (length bytes) bytes (omega arith) h
