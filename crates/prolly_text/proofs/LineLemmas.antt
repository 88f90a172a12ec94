-- Lines, and the split of a line at its first separator.
use Rattle.std.proofs.Common.{◌≡◌, ◌≢◌, ℕ, ◌+◌, ◌-◌, ◌<◌, ◌≤◌, Bool, true, false}
use Rattle.std.proofs.Common.{List, [], ◌∷◌, ◌++◌, length, take, drop, Some, None, All}
use Rattle.std.proofs.Common.{get_or, unwrap_or, add-one, drop-cons, length-drop, refl, sym, ap}
use Rattle.std.proofs.Common.{◌∙◌, subst, arith, Result, Ok, Err, IfErr}
use Rattle.std.specs.Prelude.{◌==◌, slice_get}
use Rattle.std.specs.List.{AllByRecursion}
use Rattle.std.proofs.lemmas.List.Elements.{recursion_from_All}
use Rattle.std.proofs.lemmas.List.{drop-drop, nil_from_length, take-append-drop, take_all}
use Rattle.std.proofs.lemmas.Option.{slice_get_within, unwrap_or-slice_get}
use Rattle.std.proofs.lemmas.Bool.Decides.{nat_tests}
use Rattle.prolly_entry.specs.lemmas.Lists.{rest_is}
use Rattle.prolly_text.specs.Notations.{IsTextFault, IsWritten, StandsWithin, separator}
use Rattle.prolly_text.specs.declared.notation.Notation.{Notation}
use Rattle.prolly_text.specs.declared.notation.Notation.TheVariants.{Hex, Text}
use Rattle.prolly_text.specs.lemmas.Notations.{texts_stand_apart}
use Rattle.prolly_text.specs.lemmas.Digits.{all_so}
use Rattle.prolly_tree.specs.Split.{in_front}
use Rattle.prolly_text.specs.Lines.{lines_of, reads_bare_keys, CutsAt, IsBadLine, IsDashLine}
use Rattle.prolly_text.specs.Lines.{IsLineOf, IsPairLine, IsRemovalLine}
use Rattle.prolly_text.specs.declared.lines.form.LineForm.{LineForm}
use Rattle.prolly_text.specs.PackedLines.{IsUnreadLine, MarksRemoval}
use Rattle.prolly_text.specs.declared.notation.TextFault.{TextFault}
use Rattle.prolly_text.specs.declared.notation.TextFault.TheVariants as texts

-- no place of the list has the byte
abbrev pub Lacks : ℕ → List ℕ → Type 0
Lacks byte xs = AllByRecursion (λ b. b ≢ byte) xs

pub lacks : (byte : ℕ) (xs : List ℕ) → All (λ b. b ≢ byte) xs → Lacks byte xs
lacks byte xs h = recursion_from_All (λ b. b ≢ byte) xs h

-- ---- lines

other : (b : ℕ) → b ≢ 0x0A → (b == 0x0A) ≡ false
other b h = grind (arith, nat_tests)

pub lines_in_front : (x : ℕ) (text : List ℕ) → x ≢ 0x0A →
    lines_of (x ∷ text) ≡ in_front x (lines_of text)
lines_in_front x text h = rw (other x h) refl

pub line_first : (line rest : List ℕ) → Lacks 0x0A line →
    lines_of (line ++ 0x0A ∷ rest) ≡ line ∷ lines_of rest
line_first [] rest h = refl
line_first (x ∷ line) rest h = lines_in_front x (line ++ 0x0A ∷ rest) h.0 ∙
    ap (in_front x) (line_first line rest h.1)

pub line_alone : (x : ℕ) (line : List ℕ) → Lacks 0x0A (x ∷ line) →
    lines_of (x ∷ line) ≡ (x ∷ line) ∷ []
line_alone x [] h = lines_in_front x [] h.0
line_alone x (y ∷ line) h = lines_in_front x (y ∷ line) h.0 ∙
    ap (in_front x) (line_alone y line h.1)

-- ---- the byte at a place

pub cut_there : (xs : List ℕ) (n byte : ℕ) → slice_get xs n ≡ Some byte →
    xs ≡ take n xs ++ byte ∷ drop (n + 1) xs
cut_there xs n byte h =
    let within : n < length xs = slice_get_within xs n byte h in
    let here : get_or xs n 0 ≡ byte = sym (unwrap_or-slice_get xs n 0) ∙
    ap (λ o. unwrap_or o 0) h in
    let rest : drop n xs ≡ get_or xs n 0 ∷ drop (n + 1) xs = rw (add-one, drop-cons xs n 0) refl in
    sym (take-append-drop n xs) ∙ ap (λ (t : List ℕ). take n xs ++ t)
    (rest ∙ ap (λ b. b ∷ drop (n + 1) xs) here)

-- ---- one separator

pub one_place : (byte : ℕ) (a b c d : List ℕ) → Lacks byte a → Lacks byte c →
    a ++ byte ∷ b ≡ c ++ byte ∷ d → (a ≡ c) × (b ≡ d)
one_place byte [] b [] d h k e = (refl, cc)
one_place byte [] b (y ∷ c) d h k e = absurd (k.0 (let f : byte ≡ y = cc in sym f))
one_place byte (x ∷ a) b [] d h k e = absurd (h.0 (let f : x ≡ byte = cc in f))
one_place byte (x ∷ a) b (y ∷ c) d h k e =
    let first : x ≡ y = cc in
    let rest : a ++ byte ∷ b ≡ c ++ byte ∷ d = cc in
    let more = one_place byte a b c d h.1 k.1 rest in
    (cc (first, more.0), more.1)

-- A list that lacks a byte is not cut at it.
pub has_byte : (byte : ℕ) (line a b : List ℕ) → Lacks byte line → line ≡ a ++ byte ∷ b → ⊥
has_byte byte [] [] b h e = cc
has_byte byte (x ∷ xs) [] b h e = h.0 cc
has_byte byte [] (y ∷ a) b h e = cc
has_byte byte (x ∷ xs) (y ∷ a) b h e =
    let rest : xs ≡ a ++ byte ∷ b = cc in has_byte byte xs a b h.1 rest

pub lacks_newline : (notation : Notation) (text bytes : List ℕ) →
    IsWritten notation text bytes → Lacks 0x0A text
lacks_newline notation text bytes h = all_so (StandsWithin notation) (λ b. b ≢ 0x0A) (λ b w. w.0)
    text (texts_stand_apart notation text bytes h)

pub lacks_separator : (notation : Notation) (text bytes : List ℕ) →
    IsWritten notation text bytes → Lacks (separator notation) text
lacks_separator notation text bytes h = all_so (StandsWithin notation)
    (λ b. b ≢ separator notation) (λ b w. w.1) text (texts_stand_apart notation text bytes h)

pub cuts_there : (byte : ℕ) (line key change : List ℕ) (place : ℕ) →
    All (λ b. b ≢ byte) (take place line) → slice_get line place ≡ Some byte →
    key ≡ take place line → change ≡ drop (place + 1) line → CutsAt byte line key change
cuts_there byte line key change place h k e f = record {
  is = cut_there line place byte k ∙ (ap (λ (t : List ℕ). t ++ byte ∷ drop (place + 1) line)
      (sym e) ∙ ap (λ (t : List ℕ). key ++ byte ∷ t) (sym f));
  none = subst (λ (t : List ℕ). Lacks byte t) (sym e) (lacks byte (take place line) h);
}

pub no_cut : (byte : ℕ) (line : List ℕ) (n : ℕ) → All (λ b. b ≢ byte) (take n line) →
    length line ≤ n → Lacks byte line
no_cut byte line n h e =
    lacks byte line (subst (λ (t : List ℕ). All (λ b. b ≢ byte) t) (take_all n line e) h)

-- Whatever the line stands for, its texts lie before and behind the first separator.
pub pair_texts : (notation : Notation) (line key_text change_text key value : List ℕ) →
    CutsAt (separator notation) line key_text change_text →
    (h : IsPairLine notation line key value) →
    (h.key_text ≡ key_text) × (h.value_text ≡ change_text)
pair_texts notation line key_text change_text key value c h =
    one_place (separator notation) h.key_text h.value_text key_text change_text
    (lacks_separator notation h.key_text key h.key_is) c.none (sym h.is ∙ c.is)

pub dash_texts : (line key_text change_text key : List ℕ) →
    CutsAt 0x20 line key_text change_text → (h : IsDashLine line key) →
    (h.key_text ≡ key_text) × (0x2D ∷ [] ≡ change_text)
dash_texts line key_text change_text key c h =
    one_place 0x20 h.key_text (0x2D ∷ []) key_text change_text
    (lacks_separator Hex h.key_text key h.key_is) c.none (sym h.is ∙ c.is)

-- ---- a line without a separator

bare_removes : (notation : Notation) (removals : Bool) (line key : List ℕ) →
    Lacks (separator notation) line → reads_bare_keys notation removals ≡ false →
    IsRemovalLine notation removals line key → ⊥
bare_removes Hex removals line key lacks e h =
    has_byte 0x20 line h.key_text (0x2D ∷ []) lacks h.is
bare_removes Text true line key lacks e h = cc
bare_removes Text false line key lacks e h = h

bare_unread : (notation : Notation) (removals : Bool) (line key : List ℕ) →
    reads_bare_keys notation removals ≡ true →
    ((bytes : List ℕ) → IsWritten notation line bytes → ⊥) →
    IsRemovalLine notation removals line key → ⊥
bare_unread Hex removals line key e none h = cc
bare_unread Text true line key e none h = none key h
bare_unread Text false line key e none h = h

bare_is : (notation : Notation) (removals : Bool) (line key : List ℕ) →
    reads_bare_keys notation removals ≡ true → IsWritten notation line key →
    IsRemovalLine notation removals line key
bare_is Hex removals line key e h = absurd (let none : false ≡ true = e in cc)
bare_is Text true line key e h = h
bare_is Text false line key e h = absurd (let none : false ≡ true = e in cc)

bad_bare : (form : LineForm) (line : List ℕ) → Lacks (separator form.notation) line →
    ((key : List ℕ) → IsRemovalLine form.notation form.removals line key → ⊥) → IsBadLine form line
bad_bare form line lacks none key None h = none key h
bad_bare form line lacks none key (Some value) h =
    has_byte (separator form.notation) line h.key_text h.value_text lacks h.is

-- No removal is read of it.
pub bare_refused : (form : LineForm) (line : List ℕ) → Lacks (separator form.notation) line →
    reads_bare_keys form.notation form.removals ≡ false → IsBadLine form line
bare_refused form line lacks e = bad_bare form line lacks
    (λ key h. bare_removes form.notation form.removals line key lacks e h)

-- It is not written as a key is.
pub unread_bare : (form : LineForm) (line : List ℕ) (fault : TextFault) →
    Lacks (separator form.notation) line → reads_bare_keys form.notation form.removals ≡ true →
    IsTextFault form.notation line fault → IsUnreadLine form line fault
unread_bare form line texts.Memory lacks e h = tt
unread_bare form line texts.Bad lacks e h = bad_bare form line lacks
    (λ key k. bare_unread form.notation form.removals line key e h k)

pub bare_line : (form : LineForm) (line key : List ℕ) →
    reads_bare_keys form.notation form.removals ≡ true → IsWritten form.notation line key →
    IsLineOf form line key None
bare_line form line key e h = bare_is form.notation form.removals line key e h

-- ---- a line that is cut at its separator

key_removed : (notation : Notation) (removals : Bool) (line key_text change_text key : List ℕ) →
    CutsAt (separator notation) line key_text change_text →
    ((bytes : List ℕ) → IsWritten notation key_text bytes → ⊥) →
    IsRemovalLine notation removals line key → ⊥
key_removed Hex removals line key_text change_text key c none h =
    none key (subst (λ t. IsWritten Hex t key)
    (dash_texts line key_text change_text key c h).0 h.key_is)
key_removed Text true line key_text change_text key c none h =
    has_byte 0x09 line key_text change_text (lacks_separator Text line key h) c.is
key_removed Text false line key_text change_text key c none h = h

change_removed : (notation : Notation) (removals : Bool) (line key_text change_text key : List ℕ) →
    CutsAt (separator notation) line key_text change_text →
    (MarksRemoval notation change_text → ⊥) → IsRemovalLine notation removals line key → ⊥
change_removed Hex removals line key_text change_text key c other h =
    other (sym (dash_texts line key_text change_text key c h).1)
change_removed Text true line key_text change_text key c other h =
    has_byte 0x09 line key_text change_text (lacks_separator Text line key h) c.is
change_removed Text false line key_text change_text key c other h = h

-- There is no key before the separator.
no_key : (form : LineForm) (line key_text change_text : List ℕ) →
    CutsAt (separator form.notation) line key_text change_text →
    ((bytes : List ℕ) → IsWritten form.notation key_text bytes → ⊥) → IsBadLine form line
no_key form line key_text change_text c none key None h =
    key_removed form.notation form.removals line key_text change_text key c none h
no_key form line key_text change_text c none key (Some value) h =
    none key (subst (λ t. IsWritten form.notation t key)
    (pair_texts form.notation line key_text change_text key value c h).0 h.key_is)

-- Neither a mark of a removal nor a value is behind it.
no_change : (form : LineForm) (line key_text change_text : List ℕ) →
    CutsAt (separator form.notation) line key_text change_text →
    (MarksRemoval form.notation change_text → ⊥) →
    ((bytes : List ℕ) → IsWritten form.notation change_text bytes → ⊥) → IsBadLine form line
no_change form line key_text change_text c other none key None h =
    change_removed form.notation form.removals line key_text change_text key c other h
no_change form line key_text change_text c other none key (Some value) h =
    none value (subst (λ t. IsWritten form.notation t value)
    (pair_texts form.notation line key_text change_text key value c h).1 h.value_is)

pub unread_key : (form : LineForm) (line key_text change_text : List ℕ) (fault : TextFault) →
    CutsAt (separator form.notation) line key_text change_text →
    IsTextFault form.notation key_text fault → IsUnreadLine form line fault
unread_key form line key_text change_text texts.Memory c h = tt
unread_key form line key_text change_text texts.Bad c h = no_key form line key_text change_text c h

pub unread_change : (form : LineForm) (line key_text change_text : List ℕ) (fault : TextFault) →
    CutsAt (separator form.notation) line key_text change_text →
    (MarksRemoval form.notation change_text → ⊥) →
    IsTextFault form.notation change_text fault → IsUnreadLine form line fault
unread_change form line key_text change_text texts.Memory c other h = tt
unread_change form line key_text change_text texts.Bad c other h =
    no_change form line key_text change_text c other h

removed_is : (notation : Notation) (removals : Bool) (line key_text change_text key : List ℕ) →
    CutsAt (separator notation) line key_text change_text → IsWritten notation key_text key →
    MarksRemoval notation change_text → IsRemovalLine notation removals line key
removed_is Hex removals line key_text change_text key c h mark = record {
  key_text = key_text;
  is = c.is ∙ ap (λ (t : List ℕ). key_text ++ 0x20 ∷ t) mark;
  key_is = h;
}
removed_is Text removals line key_text change_text key c h mark = absurd mark

pub line_removed : (form : LineForm) (line key_text change_text key : List ℕ) →
    CutsAt (separator form.notation) line key_text change_text →
    IsWritten form.notation key_text key → MarksRemoval form.notation change_text →
    IsLineOf form line key None
line_removed form line key_text change_text key c h mark =
    removed_is form.notation form.removals line key_text change_text key c h mark

pub line_put : (form : LineForm) (line key_text change_text key value : List ℕ) →
    CutsAt (separator form.notation) line key_text change_text →
    IsWritten form.notation key_text key → IsWritten form.notation change_text value →
    IsLineOf form line key (Some value)
line_put form line key_text change_text key value c h k = record {
  key_text = key_text;
  value_text = change_text;
  is = c.is;
  key_is = h;
  value_is = k;
}

-- ---- what is wrong with a part of a line

-- What is wrong with a part of a line is wrong with the line.
pub part_unread : {T : Type 0} (form : LineForm) (line : List ℕ) (P : TextFault → Type 0)
    (result : Result T TextFault) → ((fault : TextFault) → P fault → IsUnreadLine form line fault) →
    IfErr result P → IfErr result (IsUnreadLine form line)
part_unread form line P (Ok r) so h = tt
part_unread form line P (Err fault) so h = so fault h

-- ---- slices behind an offset

-- `&back[1..]`, where `back` begins at offset n
pub behind : (xs back : List ℕ) (n : ℕ) → back ≡ drop n xs →
    take (length back - 1) (drop 1 back) ≡ drop (n + 1) xs
behind xs back n e = rest_is back 1 ∙ (ap (drop 1) e ∙ drop-drop 1 n xs)

pub last_line : (text front back : List ℕ) (n : ℕ) → All (λ b. b ≢ 0x0A) (take n text) →
    front ≡ take n text → back ≡ drop n text →
    length back ≡ 0 → 0 < length text → lines_of text ≡ front ∷ lines_of back
last_line text front back n none e f over some =
    let all : take n text ≡ text = take_all n text (omega (arith, ap length f, length-drop n text))
    in
    let nil : back ≡ [] = nil_from_length back over in
    alone text (lacks 0x0A text (subst (λ (t : List ℕ). All (λ b. b ≢ 0x0A) t) all none)) some
    ∙ (ap (λ (t : List ℕ). t ∷ []) (sym (e ∙ all)) ∙
    ap (λ (t : List ℕ). front ∷ lines_of t) (sym nil))
  where
    alone : (text : List ℕ) → Lacks 0x0A text → 0 < length text → lines_of text ≡ text ∷ []
    alone [] h some = absurd (omega arith)
    alone (x ∷ text) h some = line_alone x text h

pub next_line : (text front back : List ℕ) (n : ℕ) → All (λ b. b ≢ 0x0A) (take n text) →
    slice_get text n ≡ Some 0x0A → front ≡ take n text →
    back ≡ drop n text → lines_of text ≡ front ∷ lines_of (take (length back - 1) (drop 1 back))
next_line text front back n none there e f =
    ap lines_of (cut_there text n 0x0A there)
    ∙ (line_first (take n text) (drop (n + 1) text) (lacks 0x0A (take n text) none)
    ∙ (ap (λ (t : List ℕ). t ∷ lines_of (drop (n + 1) text)) (sym e) ∙
    ap (λ (t : List ℕ). front ∷ lines_of t) (sym (behind text back n f))))
