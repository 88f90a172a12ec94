-- Parts of bytes, from one offset to another.
use Rattle.std.proofs.Common.{◌≡◌, ℕ, ◌+◌, ◌-◌, ◌≤◌, List, length, take, drop, ◌++◌, Option, Some}
use Rattle.std.proofs.Common.{None, refl, sym, ap, ◌∙◌, subst, arith}
use Rattle.std.specs.Option.{option_map}
use Rattle.prolly_io.specs.declared.device.read_buffer.Span.{Span}
use Rattle.prolly_io.specs.Span.{part, IsKeptBefore}
use Rattle.std.proofs.lemmas.List.{append-nil, drop_all, drop-take, drop-drop, length-take}
use Rattle.std.proofs.lemmas.List.{take_all, take-take}

-- The bytes from i to j of the part between two offsets.
pub part_within : (bytes : List ℕ) (start end i j : ℕ) → i ≤ j →
    j ≤ length (take (end - start) (drop start bytes)) →
    take (start + j - (start + i)) (drop (start + i) bytes) ≡
    take (j - i) (drop i (take (end - start) (drop start bytes)))
part_within bytes start end i j h k =
    let xs = drop start bytes in
    let n = end - start in
    let size : j ≤ n = omega (arith, length-take n xs) in
    let split : n ≡ i + (n - i) = omega arith in
    let same : start + j - (start + i) ≡ j - i = omega arith in
    let inner : drop i (take n xs) ≡ take (n - i) (drop i xs) = ap (λ m. drop i (take m xs)) split ∙
    drop-take i (n - i) xs in
    ap (λ m. take m (drop (start + i) bytes)) same
    ∙ (ap (take (j - i)) (sym (drop-drop i start bytes))
    ∙ (sym (take-take (j - i) (n - i) (drop i xs) (omega arith)) ∙ ap (take (j - i)) (sym inner)))

-- What is behind the first bytes of a part.
pub part_behind : (bytes : List ℕ) (start end count : ℕ) →
    count ≤ length (take (end - start) (drop start bytes)) →
    take (end - (start + count)) (drop (start + count) bytes) ≡
    drop count (take (end - start) (drop start bytes))
part_behind bytes start end count h =
    let size : end - start ≡ count + (end - (start + count)) =
    omega (arith, length-take (end - start) (drop start bytes)) in
    sym (ap (λ k. drop count (take k (drop start bytes))) size
    ∙ (drop-take count (end - (start + count)) (drop start bytes) ∙
    ap (take (end - (start + count))) (drop-drop count start bytes)))

-- A part is the same in bytes that agree from an offset before it on.
pub same_behind : (bytes bytes' : List ℕ) (offset : ℕ) (span : Span) → offset ≤ span.start →
    drop offset bytes' ≡ drop offset bytes →
    part bytes' span ≡ part bytes span
same_behind bytes bytes' offset span h e =
    let split : span.start ≡ offset + (span.start - offset) = omega arith in
    let from : drop span.start bytes' ≡ drop span.start bytes =
    subst (λ n. drop n bytes' ≡ drop n bytes) (sym split)
    (sym (drop-drop (span.start - offset) offset bytes') ∙ ap (drop (span.start - offset)) e ∙
    drop-drop (span.start - offset) offset bytes) in
    ap (take (span.end - span.start)) from

-- A part is the same in bytes that agree up to an offset behind it.
pub same_before : (bytes bytes' : List ℕ) (offset : ℕ) (span : Span) → span.start ≤ span.end →
    span.end ≤ offset → take offset bytes' ≡ take offset bytes →
    part bytes' span ≡ part bytes span
same_before bytes bytes' offset span o h e = sym (cut bytes') ∙ ap (λ xs. part xs span) e ∙ cut bytes
  where
    cut : (xs : List ℕ) → part (take offset xs) span ≡ part xs span
    cut xs =
        let split : offset ≡ span.start + (offset - span.start) = omega arith in
        ap (take (span.end - span.start)) (ap (λ n. drop span.start (take n xs)) split ∙
        drop-take span.start (offset - span.start) xs)
        ∙ take-take (span.end - span.start) (offset - span.start) (drop span.start xs) (omega arith)

-- So are kept ones before the offset, if there are any.
pub same_kept : (bytes bytes' : List ℕ) (most offset end : ℕ) (kept : Option Span) →
    IsKeptBefore most offset kept → offset ≤ end → take end bytes' ≡ take end bytes →
    option_map (part bytes') kept ≡ option_map (part bytes) kept
same_kept bytes bytes' most offset end None h k e = refl
same_kept bytes bytes' most offset end (Some kept) h k e =
    ap Some (same_before bytes bytes' end kept h.0 (omega arith) e)

-- Kept ones are the same where the bytes were lent and given back with the first ones as they were.
pub kept_given_back : (items lent given : List ℕ) (most len : ℕ) (kept : Option Span)
    (unparsed : Span) (are : Option (List ℕ)) →
    lent ≡ items → length lent ≡ len → length given ≡ length lent →
    IsKeptBefore most unparsed.start kept → unparsed.start ≤ unparsed.end →
    take unparsed.end given ≡ take unparsed.end lent → option_map (part items) kept ≡ are →
    option_map (part (take len (given ++ drop (length given) items))) kept ≡ are
kept_given_back items lent given most len kept unparsed are value size same before order first is =
    let all : length items ≤ length given = omega (arith, ap length value) in
    let back : take len (given ++ drop (length given) items) ≡ given =
    ap (take len) (ap (λ xs. given ++ xs) (drop_all (length given) items all) ∙ append-nil given) ∙
    take_all len given (omega arith) in
    ap (λ xs. option_map (part xs) kept) back
    ∙ (same_kept lent given most unparsed.start unparsed.end kept before order first
    ∙ (ap (λ xs. option_map (part xs) kept) value ∙ is))
