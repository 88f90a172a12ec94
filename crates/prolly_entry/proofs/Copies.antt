-- A copy of a pair is kept as its spelling.
use Rattle.std.proofs.Common.{◌≡◌, ℕ, ◌+◌, ◌-◌, List, ◌++◌, length, take, drop, refl, sym, ap, ◌∙◌}
use Rattle.std.proofs.Common.{subst, arith, length-append}
use Rattle.std.proofs.lemmas.List.{drop-drop}
use Rattle.std.specs.Int.{w16, w32, to_be_bytes}
use Rattle.prolly_entry.specs.Pair.{Pair, IsPair}
use Rattle.prolly_entry.specs.Spelling.{pair_spelling, value_spelling}
use Rattle.prolly_entry.specs.Storage.{pair_of, IsSpelling}
use Rattle.prolly_entry.specs.lemmas.Spellings.{after_two, key_size, key_there, same_pair}

pub copied : (p : Pair) (bytes : List ℕ) → bytes ≡ pair_spelling p →
    pair_of bytes (2 + length p.key) ≡ p
copied p bytes e =
    let n = length p.key in
    let key : take (2 + n - 2) (drop 2 bytes) ≡ p.key =
    ap (λ xs. take (2 + n - 2) (drop 2 xs)) e ∙ key_there p.key (value_spelling p.value) (2 + n - 2)
    (omega arith) in
    let value : drop (2 + n + 4) bytes ≡ p.value =
    ap (drop (2 + n + 4)) e ∙ sym (drop-drop 4 (2 + n) (pair_spelling p)) ∙
    ap (drop 4) (after_two p.key (value_spelling p.value) n refl) in
    same_pair (take (2 + n - 2) (drop 2 bytes)) p.key (drop (2 + n + 4) bytes) p.value key value

pub is_spelling : (p : Pair) (bytes : List ℕ) → IsPair p → bytes ≡ pair_spelling p →
    IsSpelling bytes (2 + length p.key)
is_spelling p bytes h e =
    let same = copied p bytes e in
    let size = ap length e ∙ length-append (to_be_bytes w16 (length p.key) ++ p.key)
    (value_spelling p.value) in
    let key = key_size p.key in
    let value = length-append (to_be_bytes w32 (length p.value)) p.value in
    record {
      lawful = subst IsPair (sym same) h;
      spelled = e ∙ ap pair_spelling (sym same);
      begun = omega arith;
      within = omega arith;
    }

-- An array that begins with the four parts of a spelling begins with the spelling.
pub short_spelling : (p : Pair) (bytes key_length value_length : List ℕ) →
    key_length ≡ to_be_bytes w16 (length p.key) → value_length ≡ to_be_bytes w32 (length p.value) →
    take (length key_length + length p.key + length value_length + length p.value) bytes ≡
    (key_length ++ p.key) ++ (value_length ++ p.value) →
    take (2 + length p.key + 4 + length p.value) bytes ≡ pair_spelling p
short_spelling p bytes key_length value_length k v e =
    let two : length key_length ≡ 2 = ap length k in
    let four : length value_length ≡ 4 = ap length v in
    ap (λ n. take n bytes) (omega arith) ∙ e ∙ ap (λ xs. (xs ++ p.key) ++ (value_length ++ p.value))
    k ∙ ap (λ xs. (to_be_bytes w16 (length p.key) ++ p.key) ++ (xs ++ p.value)) v
