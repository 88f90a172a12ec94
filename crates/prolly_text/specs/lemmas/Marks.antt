-- A byte order mark: of a text, of its first line, and of what is printed, which has none.
use Rattle.std.proofs.Common.{◌≡◌, ℕ, ◌+◌, ◌/◌, ◌%◌, Bool, true, false, cond, List, [], ◌∷◌, ◌++◌}
use Rattle.std.proofs.Common.{refl, sym, ap, ◌∙◌, append_assoc, arith}
use Rattle.std.proofs.lemmas.Bool.Decides.{nat_tests}
use Rattle.std.specs.Char.{encode_utf8}
use Rattle.std.specs.Prelude.{◌==◌, if◌then◌else◌, nat_lt}
use Rattle.std.specs.Str.{encode_utf8_all, NonePass}
use Rattle.prolly_tree.specs.Split.{in_front}
use Rattle.prolly_text.specs.Escapes.{is_hidden}
use Rattle.prolly_text.specs.Notations.{IsShown}
use Rattle.prolly_text.specs.Lines.{IsMarked, lines_of}
use Rattle.prolly_text.specs.declared.notation.Notation.{Notation}
use Rattle.prolly_text.specs.declared.notation.Notation.TheVariants.{Hex, Text}

-- The first of the lines; where there is none, an empty one.
abbrev first_of : List (List ℕ) → List ℕ
first_of [] = []
first_of (line ∷ after) = line

first_in_front : (b : ℕ) (lines : List (List ℕ)) (x : ℕ) (line : List ℕ) →
    first_of (in_front b lines) ≡ x ∷ line → (b ≡ x) × (first_of lines ≡ line)
first_in_front b [] x line e = (cc, cc)
first_in_front b (l ∷ lines) x line e = (cc, cc)

-- A line that begins with a byte is that of a text that begins with it.
first_begins : (b : ℕ) (text : List ℕ) (x : ℕ) (line : List ℕ) →
    first_of (lines_of (b ∷ text)) ≡ x ∷ line → (b ≡ x) × (first_of (lines_of text) ≡ line)
first_begins b text x line e = go (b == 0x0A) e
  where
    go : (ends : Bool) →
        first_of (if ends then [] ∷ lines_of text else in_front b (lines_of text)) ≡ x ∷ line →
        (b ≡ x) × (first_of (lines_of text) ≡ line)
    go true e = cc
    go false e = first_in_front b (lines_of text) x line e

none_first : (x : ℕ) (line : List ℕ) → first_of (lines_of []) ≡ x ∷ line → ⊥
none_first x line e = cc

marked_from_line : (text rest : List ℕ) →
    first_of (lines_of text) ≡ 0xEF ∷ 0xBB ∷ 0xBF ∷ rest → IsMarked Text text
marked_from_line [] rest e = absurd (none_first 0xEF (0xBB ∷ 0xBF ∷ rest) e)
marked_from_line (a ∷ []) rest e =
    absurd (none_first 0xBB (0xBF ∷ rest) (first_begins a [] 0xEF (0xBB ∷ 0xBF ∷ rest) e).1)
marked_from_line (a ∷ b ∷ []) rest e =
    let one = first_begins a (b ∷ []) 0xEF (0xBB ∷ 0xBF ∷ rest) e in
    absurd (none_first 0xBF rest (first_begins b [] 0xBB (0xBF ∷ rest) one.1).1)
marked_from_line (a ∷ b ∷ c ∷ text) rest e =
    let one = first_begins a (b ∷ c ∷ text) 0xEF (0xBB ∷ 0xBF ∷ rest) e in
    let two = first_begins b (c ∷ text) 0xBB (0xBF ∷ rest) one.1 in
    let three = first_begins c text 0xBF rest two.1 in
    let first = one.0 in
    let second = two.0 in
    let third = three.0 in
    (text, cc)

-- A text whose first line begins with a mark begins with one.
pub line_marked : (notation : Notation) (text line : List ℕ) (after : List (List ℕ)) →
    lines_of text ≡ line ∷ after → IsMarked notation line → IsMarked notation text
line_marked Hex text line after e h = h
line_marked Text text line after e h = marked_from_line text h.0 (first_is (lines_of text) e ∙ h.1)
  where
    first_is : (lines : List (List ℕ)) → lines ≡ line ∷ after → first_of lines ≡ line
    first_is lines e = ap first_of e

mark_in_line : (lines : List (List ℕ)) (line : List ℕ) (after : List (List ℕ)) →
    in_front 0xEF (in_front 0xBB (in_front 0xBF lines)) ≡ line ∷ after → IsMarked Text line
mark_in_line [] line after e = ([], cc)
mark_in_line (l ∷ lines) line after e = (l, cc)

-- The first line of a text that begins with a mark begins with one.
pub text_marked : (notation : Notation) (text line : List ℕ) (after : List (List ℕ)) →
    lines_of text ≡ line ∷ after → IsMarked notation text → IsMarked notation line
text_marked Hex text line after e h = h
text_marked Text text line after e h =
    mark_in_line (lines_of h.0) line after (sym (ap lines_of h.1) ∙ e)

-- A text without a line begins with no mark.
pub none_marked : (notation : Notation) (text : List ℕ) → lines_of text ≡ [] →
    IsMarked notation text → ⊥
none_marked Hex text e h = h
none_marked Text text e h = some (lines_of h.0) (sym (ap lines_of h.1) ∙ e)
  where
    some : (lines : List (List ℕ)) →
        in_front 0xEF (in_front 0xBB (in_front 0xBF lines)) ≡ [] → ⊥
    some [] e = cc
    some (l ∷ lines) e = cc

-- ---- what is printed

-- Where the bytes of a character, and others behind them, begin with a mark, it is the character.
mark_is_first : (character : ℕ) (behind rest : List ℕ) →
    encode_utf8 character ++ behind ≡ 0xEF ∷ 0xBB ∷ 0xBF ∷ rest → character ≡ 0xFEFF
unfolding encode_utf8
mark_is_first c behind rest = go (nat_lt c 128) refl (nat_lt c 2048) refl (nat_lt c 65536) refl
  where
    last : ℕ
    last = 128 + c % 64

    third : ℕ
    third = 128 + c / 64 % 64

    go : (one : Bool) → nat_lt c 128 ≡ one → (two : Bool) → nat_lt c 2048 ≡ two →
        (three : Bool) → nat_lt c 65536 ≡ three →
        cond one (c ∷ []) (cond two ((192 + c / 64) ∷ last ∷ [])
        (cond three ((224 + c / 4096) ∷ third ∷ last ∷ [])
        ((240 + c / 262144) ∷ (128 + c / 4096 % 64) ∷ third ∷ last ∷ []))) ++ behind
        ≡ 0xEF ∷ 0xBB ∷ 0xBF ∷ rest → c ≡ 0xFEFF
    go true e two f three g h = let first : c ≡ 0xEF = cc in grind (arith, nat_tests)
    go false e true f three g h = let first : 192 + c / 64 ≡ 0xEF = cc in grind (arith, nat_tests)
    go false e false f true g h =
        let first : 224 + c / 4096 ≡ 0xEF = cc in
        let second : 128 + c / 64 % 64 ≡ 0xBB = cc in
        let last : 128 + c % 64 ≡ 0xBF = cc in omega arith
    go false e false f false g h = let first : 240 + c / 262144 ≡ 0xEF = cc in omega arith

-- The bytes do not begin with the first one of a mark.
abbrev pub BeginsUnmarked : List ℕ → Type 0
BeginsUnmarked behind = (rest : List ℕ) → behind ≡ 0xEF ∷ rest → ⊥

-- Characters none of which is hidden do not begin with a mark.
unmarked : (characters behind : List ℕ) → NonePass is_hidden characters →
    BeginsUnmarked behind → IsMarked Text (encode_utf8_all characters ++ behind) → ⊥
unmarked [] behind none begins marked = begins (0xBB ∷ 0xBF ∷ marked.0) marked.1
unmarked (c ∷ characters) behind none begins marked =
    let is = mark_is_first c (encode_utf8_all characters ++ behind) marked.0
    (sym (append_assoc (encode_utf8 c) (encode_utf8_all characters) behind) ∙ marked.1) in
    let hidden : true ≡ false = sym (ap is_hidden is) ∙ none.0 in cc

-- What shows has no mark in front of it, whatever stands behind it.
pub shown_unmarked : (text behind : List ℕ) → IsShown text → BeginsUnmarked behind →
    IsMarked Text (text ++ behind) → ⊥
shown_unmarked text behind shown begins marked =
    unmarked shown.1.0 behind shown.1.2 begins
    (marked.0, ap (λ t. t ++ behind) shown.1.1 ∙ marked.1)
