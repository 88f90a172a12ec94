-- What is wrong with a line that stands for no record.
use Rattle.std.proofs.Common.{◌≡◌, ◌≢◌, ℕ, ◌+◌, ◌-◌, ◌%◌, ◌<◌, ◌≤◌, Bool, true, false}
use Rattle.std.proofs.Common.{◌||◌, List, [], ◌∷◌, ◌++◌, length, take, drop, Option, Some, None}
use Rattle.std.proofs.Common.{All, refl, sym, ap, ◌∙◌, subst, arith, if◌then◌else◌}
use Rattle.std.proofs.Common.{append_assoc}
use Rattle.std.specs.Char.{is_ascii_hexdigit}
use Rattle.std.specs.Prelude.{is_some, nat_le, slice_get, slice_index, ◌&&◌}
use Rattle.std.specs.List.{AllByRecursion}
use Rattle.std.proofs.lemmas.Bool.{false≢true}
use Rattle.std.proofs.lemmas.List.{length-take-le, take_all}
use Rattle.std.proofs.lemmas.List.Elements.{All-from_recursion, recursion_from_All}
use Rattle.std.proofs.lemmas.Option.{slice_get-get_or}
use Rattle.hex.specs.Hex.{is_hex_digit}
use Rattle.hex.proofs.HexLemmas.{decode_of-digits}
use Rattle.prolly_text.specs.Defects.{BreaksOff, HasDefect, HasFirst, HasTwo, IsLengthVerdict}
use Rattle.prolly_text.specs.Defects.{IsPart, IsPartDefect, IsRead, IsVerdictOn}
use Rattle.prolly_text.specs.Lines.{CutsAt, IsBadLine, IsLineOf, IsMarked, reads_bare_keys}
use Rattle.prolly_text.specs.Notations.{separator}
use Rattle.prolly_text.specs.PackedLines.{IsWrittenFor, MarksRemoval, value_in}
use Rattle.prolly_text.specs.Pieces.{BeginsWithAll, BeginsWithNone, HasPiece}
use Rattle.prolly_text.specs.lemmas.Sequences.{all_more, piece_shortens}
use Rattle.prolly_text.specs.declared.lines.defect.Defect.{Defect}
use Rattle.prolly_text.specs.declared.lines.defect.Defect.TheVariants as defects
use Rattle.prolly_text.specs.declared.lines.defect.LinePlace.{LinePlace}
use Rattle.prolly_text.specs.declared.lines.form.LineForm.{LineForm}
use Rattle.prolly_text.specs.declared.lines.line.Change.{Change}
use Rattle.prolly_text.specs.declared.notation.Notation.TheVariants.{Hex, Text}
use Rattle.prolly_text.proofs.LineLemmas.{bare_line, cut_there, line_put, line_removed}

-- ---- digits

some_in_range : (a b d : Bool) (x y z : ℕ) →
    is_some (if a then Some x else if b then Some y else if d then Some z else None) ≡ ((d || a) || b)
some_in_range true true true x y z = refl
some_in_range true true false x y z = refl
some_in_range true false true x y z = refl
some_in_range true false false x y z = refl
some_in_range false true true x y z = refl
some_in_range false true false x y z = refl
some_in_range false false true x y z = refl
some_in_range false false false x y z = refl

-- Both tests of a digit are one.
pub same_digits : (b : ℕ) → is_hex_digit b ≡ is_ascii_hexdigit b
same_digits b = some_in_range (nat_le 65 b && nat_le b 70) (nat_le 97 b && nat_le b 102)
    (nat_le 48 b && nat_le b 57) (b - 55) (b - 87) (b - 48)

-- A byte stands at its place.
first_there : (IsWrong : ℕ → Type 0) (xs : List ℕ) (n byte start : ℕ) →
    slice_get xs n ≡ Some byte → n ≤ length xs → IsWrong byte →
    AllByRecursion (λ b. IsWrong b → ⊥) (take n xs) → HasFirst IsWrong start xs (start + n)
first_there IsWrong xs n byte start there within wrong none = record {
  front = take n xs;
  byte = byte;
  back = drop (n + 1) xs;
  is = cut_there xs n byte there;
  wrong = wrong;
  none_before = none;
  offset_is = ap (λ i. start + i) (sym (length-take-le n xs within));
}

pub byte_there : (xs : List ℕ) (n byte start : ℕ) → slice_get xs n ≡ Some byte → n ≤ length xs →
    All (λ b. b ≢ byte) (take n xs) → HasFirst (λ b. b ≡ byte) start xs (start + n)
byte_there xs n byte start there within none = first_there (λ b. b ≡ byte) xs n byte start there within
    refl (recursion_from_All (λ b. b ≢ byte) (take n xs) none)

all_digits : (xs : List ℕ) → AllByRecursion (λ b. is_ascii_hexdigit b ≡ true) xs →
    AllByRecursion (λ b. is_hex_digit b ≡ true) xs
all_digits [] h = tt
all_digits (x ∷ xs) h = (same_digits x ∙ h.0, all_digits xs h.1)

none_wrong : (xs : List ℕ) → AllByRecursion (λ b. is_hex_digit b ≡ true) xs →
    AllByRecursion (λ b. is_hex_digit b ≡ false → ⊥) xs
none_wrong [] h = tt
none_wrong (x ∷ xs) h = (λ e. false≢true (sym e ∙ h.0), none_wrong xs h.1)

pub bad_digit : (xs : List ℕ) (n start : ℕ) → n < length xs →
    is_ascii_hexdigit (slice_index xs n) ≡ false →
    All (λ b. is_ascii_hexdigit b ≡ true) (take n xs) →
    HasFirst (λ b. is_hex_digit b ≡ false) start xs (start + n)
bad_digit xs n start within bad digits =
    first_there (λ b. is_hex_digit b ≡ false) xs n (slice_index xs n) start
    (slice_get-get_or xs n 0 within) (omega arith) (same_digits (slice_index xs n) ∙ bad)
    (none_wrong (take n xs) (all_digits (take n xs)
    (recursion_from_All (λ b. is_ascii_hexdigit b ≡ true) (take n xs) digits)))

-- As many digits as there are bytes are all of them.
pub every_digit : (xs : List ℕ) (n : ℕ) → All (λ b. is_ascii_hexdigit b ≡ true) (take n xs) →
    length xs ≤ n → AllByRecursion (λ b. is_hex_digit b ≡ true) xs
every_digit xs n all within =
    let every = subst (All (λ b. is_ascii_hexdigit b ≡ true)) (take_all n xs within) all in
    all_digits xs (recursion_from_All (λ b. is_ascii_hexdigit b ≡ true) xs every)

-- An even number of digits stands for bytes.
pub digits_read : (xs : List ℕ) (n : ℕ) → All (λ b. is_ascii_hexdigit b ≡ true) (take n xs) →
    length xs ≤ n → length xs % 2 ≡ 0 → IsRead Hex xs
digits_read xs n all within even =
    decode_of-digits xs even (All-from_recursion (λ b. is_hex_digit b ≡ true) xs
    (every_digit xs n all within))

-- ---- escapes

-- Characters and escapes stand in front of the rest.
pub record HasPassed (text rest : List ℕ) : Type 0 where
  pub bytes : List ℕ
  pub pieces : BeginsWithAll text bytes rest

pub none_passed : (text : List ℕ) → HasPassed text text
none_passed text = record { bytes = []; pieces = refl }

pub one_passed : (text rest behind : List ℕ) (byte : ℕ) → HasPassed text rest →
    HasPiece rest byte behind → HasPassed text behind
one_passed text rest behind byte h k = record {
  bytes = h.bytes ++ byte ∷ [];
  pieces = all_more h.bytes text rest behind byte h.pieces k;
}

pub all_passed : (text rest : List ℕ) → HasPassed text rest → rest ≡ [] → IsRead Text text
all_passed text rest h e =
    (h.bytes, subst (λ (t : List ℕ). BeginsWithAll text h.bytes t) e h.pieces)

shortens : (bytes text rest : List ℕ) → BeginsWithAll text bytes rest → length rest ≤ length text
shortens [] text rest h = omega (arith, ap length h)
shortens (b ∷ bytes) text rest h =
    let more = shortens bytes h.0 rest h.2 in
    let one = piece_shortens text b h.0 h.1 in omega arith

pub rest_shorter : (text rest : List ℕ) → HasPassed text rest → length rest ≤ length text
rest_shorter text rest h = shortens h.bytes text rest h.pieces

pub breaks_off : (text rest : List ℕ) (start : ℕ) → HasPassed text rest → BeginsWithNone rest →
    0 < length rest → BreaksOff text start (start + (length text - length rest))
breaks_off text rest start h none some = record {
  bytes = h.bytes;
  rest = rest;
  pieces = h.pieces;
  none = none;
  some = λ e. absurd (omega (arith, ap length e));
  offset_is = let s = rest_shorter text rest h in omega arith;
}

-- ---- separators

-- The second separator.
pub second_there : (byte : ℕ) (line key change : List ℕ) (n start : ℕ) →
    CutsAt byte line key change → slice_get change n ≡ Some byte → n ≤ length change →
    All (λ b. b ≢ byte) (take n change) → HasTwo byte start line (start + length key + 1 + n)
second_there byte line key change n start cut there within none = record {
  front = key;
  mid = take n change;
  back = drop (n + 1) change;
  is = cut.is ∙ (ap (λ (t : List ℕ). key ++ byte ∷ t) (cut_there change n byte there) ∙
      sym (append_assoc key (byte ∷ take n change) (byte ∷ drop (n + 1) change)));
  none_before = cut.none;
  none_between = recursion_from_All (λ b. b ≢ byte) (take n change) none;
  offset_is = ap (λ i. start + length key + 1 + i) (sym (length-take-le n change within));
}

-- ---- a line

-- What is wrong with a part of a line that stands for nothing is wrong with the line.
pub part_wrong : (form : LineForm) (place : LinePlace) (line text : List ℕ) (before : ℕ)
    (defect : Defect) → IsBadLine form line → IsPart form line text before →
    IsPartDefect form.notation text (place.offset + before) defect →
    HasDefect form place line defect
part_wrong form place line text before (defects.BadEscape offset) bad part wrong =
    (bad, record { text = text; before = before; part = part; wrong = wrong })
part_wrong form place line text before (defects.BadDigit offset) bad part wrong =
    (bad, record { text = text; before = before; part = part; wrong = wrong })
part_wrong form place line text before (defects.OddDigits offset) bad part wrong =
    (bad, record { text = text; before = before; part = part; wrong = wrong })
part_wrong form place line text before defects.ByteOrderMark bad part wrong = absurd wrong
part_wrong form place line text before (defects.CarriageReturn offset) bad part wrong =
    absurd wrong
part_wrong form place line text before defects.NoSeparator bad part wrong = absurd wrong
part_wrong form place line text before (defects.SecondSeparator offset) bad part wrong =
    absurd wrong
part_wrong form place line text before (defects.KeyTooLong len) bad part wrong = absurd wrong
part_wrong form place line text before (defects.ValueTooLong len) bad part wrong = absurd wrong
part_wrong form place line text before defects.LineTooLong bad part wrong = absurd wrong

-- A line without a separator that is read as a key stands for its removal.
pub bare_read : (form : LineForm) (line : List ℕ) →
    reads_bare_keys form.notation form.removals ≡ true → IsRead form.notation line →
    IsBadLine form line → ⊥
bare_read form line reads h bad = bad h.0 None (bare_line form line h.0 reads h.1)

-- A line whose two parts stand for bytes stands for a pair.
pub both_read : (form : LineForm) (line key_text change_text : List ℕ) →
    CutsAt (separator form.notation) line key_text change_text →
    IsRead form.notation key_text → IsRead form.notation change_text → IsBadLine form line → ⊥
both_read form line key_text change_text cut h k bad =
    bad h.0 (Some k.0) (line_put form line key_text change_text h.0 k.0 cut h.1 k.1)

-- What is behind the separator of a line that stands for nothing, and whose key stands for bytes,
-- marks no removal.
pub marks_none : (form : LineForm) (line key_text change_text : List ℕ) →
    CutsAt (separator form.notation) line key_text change_text →
    IsRead form.notation key_text → IsBadLine form line →
    MarksRemoval form.notation change_text → ⊥
marks_none form line key_text change_text cut h bad marks =
    bad h.0 None (line_removed form line key_text change_text h.0 cut h.1 marks)

-- What is too long of the change of a line is too long of the line; where nothing is, the line
-- stands for a record.
pub lengths_told : (form : LineForm) (place : LinePlace) (line : List ℕ) (change : Change)
    (told : Option Defect) → (place.number ≡ 0 → IsMarked form.notation line → ⊥) →
    IsWrittenFor form line change → IsLengthVerdict change told →
    IsVerdictOn form place line told
lengths_told form place line change None unmarked is lawful = (
  record { key = change.key.items; value = value_in change },
  record {
    stands = (is, record { key = lawful.0; value = lawful.1 });
    unmarked = unmarked;
  },
)
lengths_told form place line change (Some (defects.KeyTooLong len)) unmarked is long = record {
  key = change.key.items;
  change = value_in change;
  is = is;
  over = long.0;
  len_is = long.1;
}
lengths_told form place line change (Some (defects.ValueTooLong len)) unmarked is long = record {
  key = change.key.items;
  value = long.1.0;
  is = subst (λ v. IsLineOf form line change.key.items v) long.1.1 is;
  within = long.0;
  over = long.1.2;
  len_is = long.1.3;
}
lengths_told form place line change (Some defects.ByteOrderMark) unmarked is long = absurd long
lengths_told form place line change (Some (defects.CarriageReturn offset)) unmarked is long =
    absurd long
lengths_told form place line change (Some defects.NoSeparator) unmarked is long = absurd long
lengths_told form place line change (Some (defects.SecondSeparator offset)) unmarked is long =
    absurd long
lengths_told form place line change (Some (defects.BadEscape offset)) unmarked is long =
    absurd long
lengths_told form place line change (Some (defects.BadDigit offset)) unmarked is long =
    absurd long
lengths_told form place line change (Some (defects.OddDigits offset)) unmarked is long =
    absurd long
lengths_told form place line change (Some defects.LineTooLong) unmarked is long = absurd long
