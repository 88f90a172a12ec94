-- The text of a reference, five bytes and their eight characters at a time.
use Rattle.std.proofs.Common.{◌≡◌, ℕ, ◌+◌, ◌-◌, ◌*◌, ◌^◌, ◌<◌, List, [], ◌++◌, length, take, drop}
use Rattle.std.proofs.Common.{All, refl, sym, ap, ◌∙◌, arith}
use Rattle.std.proofs.lemmas.List.{take_all}
use Rattle.std.proofs.lemmas.List.Edits.{length-between}
use Rattle.std.proofs.lemmas.List.Elements.{All-same, All-append, All-take, All-drop}
use Rattle.std.proofs.lemmas.Slice.{take-put_mid}
use Rattle.std.proofs.Math.Seq.{take-add}
use Rattle.std.specs.List.{between}
use borrow.Rule.Slice.PartMut.{put_mid}
use Rattle.prolly_entry.specs.Byte.{IsByte}
use Rattle.prolly_entry.specs.Reference.{number_of, characters, reference_text, IsCharacter}
use Rattle.prolly_entry.specs.Reference.{IsReference, ReferenceTextsDiffer}
use Rattle.prolly_entry.proofs.Bytes.{number_of-append, number_of-high, number_of-lt, same_bytes}
use Rattle.prolly_entry.proofs.Digits.{characters-append, same_number, length-characters}
use Rattle.prolly_entry.proofs.Digits.{All-characters}

-- the characters of the first groups of bytes
unfoldable pub text_of : ℕ → List ℕ → List ℕ
text_of groups bytes = characters (8 * groups) (number_of 0 (take (5 * groups) bytes))

pub text_of_none : (bytes : List ℕ) → text_of 0 bytes ≡ []
unfolding text_of
text_of_none bytes = refl

-- one group more, of which `count` is the number of characters
pub text_of_more : (groups count : ℕ) (bytes bytes' five : List ℕ) → count ≡ 8 → length five ≡ 5 →
    number_of 0 five < 32 ^ count
    → take (5 * (groups + 1)) bytes' ≡ take (5 * groups) bytes ++ five
    → text_of (groups + 1) bytes' ≡ text_of groups bytes ++ characters count (number_of 0 five)
unfolding text_of
text_of_more groups count bytes bytes' five eight fives below pushed =
    let high = number_of 0 (take (5 * groups) bytes) in
    let powers : 256 ^ length five ≡ 32 ^ count = rw (fives, eight) refl in
    let joined = number_of-append 0 (take (5 * groups) bytes) five in
    let number : number_of 0 (take (5 * (groups + 1)) bytes') ≡ high * 32 ^ count +
    number_of 0 five = rw (pushed, joined, number_of-high high five, powers) refl in
    let places : 8 * (groups + 1) ≡ 8 * groups + count = omega arith in
    rw (number, places) (characters-append (8 * groups) count high (number_of 0 five) below)

-- a list up to the end of a part of k elements
take_part : (n k end : ℕ) (xs : List ℕ) → end ≡ n + k →
    take end xs ≡ take n xs ++ between n (n + k) xs
take_part n k end xs ends =
    let long : n + k - n ≡ k = omega arith in
    rw (ends, long) (take-add n k xs)

-- `eight` is written as the characters of the next five bytes
pub text_of-written : (group number : ℕ) (bytes text eight : List ℕ) → group < 4 →
    length bytes ≡ 20 → length text ≡ 32
    → number ≡ number_of 0 (between (5 * group) (5 * group + 5) bytes)
    → number < 256 ^ length (between (5 * group) (5 * group + 5) bytes)
    → eight ≡ characters (length (between (8 * group) (8 * group + 8) text)) number
    → take (8 * group) text ≡ text_of group bytes
    → take (8 * (group + 1)) (put_mid (8 * group) (8 * group + 8 - 8 * group) text eight) ≡
    text_of (group + 1) bytes
text_of-written group number bytes text eight within twenty long spelled below written before =
    let five = between (5 * group) (5 * group + 5) bytes in
    let fives : length five ≡ 5 = length-between bytes (5 * group) (5 * group + 5) (omega arith) ∙
    omega arith in
    let count = length (between (8 * group) (8 * group + 8) text) in
    let eights : count ≡ 8 = length-between text (8 * group) (8 * group + 8) (omega arith) ∙
    omega arith in
    let powers : 256 ^ length five ≡ 32 ^ count = rw (fives, eights) refl in
    let pushed = take_part (5 * group) 5 (5 * (group + 1)) bytes (omega arith) in
    let more = text_of_more group count bytes bytes five eights fives
    (omega (arith, spelled, below, powers)) pushed in
    let eight_long : length eight ≡ count = ap length written ∙ length-characters count number in
    let front = take-put_mid (8 * group) (8 * group + 8 - 8 * group) text eight (8 * (group + 1))
    (omega (arith, eight_long, eights)) (omega arith) in
    cc (front, before, written, spelled, more)

-- `five` is written as the bytes of the next eight characters
pub text_of-read : (group number : ℕ) (text bytes five : List ℕ) → group < 4 → length text ≡ 32 →
    length bytes ≡ 20
    → number < 32 ^ length (between (8 * group) (8 * group + 8) text)
    → characters (length (between (8 * group) (8 * group + 8) text)) number ≡
    between (8 * group) (8 * group + 8) text
    → number_of 0 five ≡ number
    → length five ≡ length (between (5 * group) (5 * group + 5) bytes)
    → text_of group bytes ≡ take (8 * group) text
    → text_of (group + 1) (put_mid (5 * group) (5 * group + 5 - 5 * group) bytes five) ≡
    take (8 * (group + 1)) text
text_of-read group number text bytes five within long twenty below read spelled filled before =
    let fives : length five ≡ 5 = filled ∙ length-between bytes (5 * group) (5 * group + 5)
    (omega arith) ∙ omega arith in
    let count = length (between (8 * group) (8 * group + 8) text) in
    let eights : count ≡ 8 = length-between text (8 * group) (8 * group + 8) (omega arith) ∙
    omega arith in
    let filled_bytes = put_mid (5 * group) (5 * group + 5 - 5 * group) bytes five in
    let pushed = take-put_mid (5 * group) (5 * group + 5 - 5 * group) bytes five (5 * (group + 1))
    (omega arith) (omega arith) in
    let more = text_of_more group count bytes filled_bytes five eights fives
    (omega (arith, spelled, below)) pushed in
    let rest = take_part (8 * group) 8 (8 * (group + 1)) text (omega arith) in
    cc (more, before, read, spelled, rest)

-- five bytes more are in range
pub All-take_more : (group : ℕ) (bytes : List ℕ) → All IsByte (take (5 * group) bytes)
    → All IsByte (between (5 * group) (5 * group + 5) bytes) →
    All IsByte (take (5 * (group + 1)) bytes)
All-take_more group bytes front five =
    let pushed = take_part (5 * group) 5 (5 * (group + 1)) bytes (omega arith) in
    All-same IsByte _ _ pushed (All-append IsByte (take (5 * group) bytes)
    (between (5 * group) (5 * group + 5) bytes) front five)

-- bytes stay in range where bytes are written into them
pub All-put_mid : (from count : ℕ) (bytes part : List ℕ) → All IsByte bytes → All IsByte part →
    All IsByte (put_mid from count bytes part)
All-put_mid from count bytes part bytes_small part_small =
    let rest = drop count (drop from bytes) in
    let rest_small = All-drop IsByte count (drop from bytes)
    (All-drop IsByte from bytes bytes_small) in
    let end_small = All-append IsByte part rest part_small rest_small in
    All-append IsByte (take from bytes) (part ++ rest) (All-take IsByte from bytes bytes_small)
    end_small

-- all groups
pub text_of_all : (groups : ℕ) (bytes : List ℕ) → groups ≡ 4 → length bytes ≡ 20 →
    text_of groups bytes ≡ reference_text bytes
unfolding text_of reference_text
text_of_all groups bytes all twenty = rw all (ap (λ bs. characters 32 (number_of 0 bs))
    (take_all 20 bytes (omega arith)))

pub length-reference_text : (bytes : List ℕ) → length (reference_text bytes) ≡ 32
unfolding reference_text
length-reference_text bytes = length-characters 32 (number_of 0 bytes)

pub All-reference_text : (bytes : List ℕ) → All IsCharacter (reference_text bytes)
unfolding reference_text
All-reference_text bytes = All-characters 32 (number_of 0 bytes)

-- the number of a reference has 32 digits
number_of_reference-lt : (bytes : List ℕ) → IsReference bytes → number_of 0 bytes < 32 ^ 32
number_of_reference-lt bytes reference =
    let below = number_of-lt bytes reference.in_range in rw reference.twenty at below

pub same_reference : ReferenceTextsDiffer
unfolding reference_text
same_reference first second first_is second_is same =
    let first_below = number_of_reference-lt first first_is in
    let second_below = number_of_reference-lt second second_is in
    let numbers = same_number 32 (number_of 0 first) (number_of 0 second) first_below second_below
    same in
    let lengths = first_is.twenty ∙ sym second_is.twenty in
    (same_bytes 0 0 first second lengths first_is.in_range second_is.in_range numbers).1
