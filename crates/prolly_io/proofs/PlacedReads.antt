-- Reads at an offset that give less than was asked.
use Rattle.std.specs.Prelude.{IfSome, Option, None, Some}
use Rattle.std.proofs.Common.{◌≡◌, ℕ, ◌+◌, ◌≤◌, ◌<◌, List, ◌++◌, length, take, drop, sym, ap, ◌∙◌}
use Rattle.std.proofs.Common.{subst}
use Rattle.std.proofs.Math.Seq.{take-append-add}
use Rattle.std.proofs.lemmas.List.{drop-drop, length-take-le, take-append-drop}
use borrow.Rule.Slice.PartMut.{put_mid}
use Rattle.prolly_io.proofs.Fronts.{front_is}

-- Behind the first ones of the bytes from an offset on n more are read.
grown : (a offset k n : ℕ) (xs ys bytes : List ℕ) → a ≤ length xs → length ys ≡ k → n ≤ k →
    take a xs ≡ take a (drop offset bytes) →
    take n ys ≡ take n (drop (offset + a) bytes) →
    take (a + n) (put_mid a k xs ys) ≡ take (a + n) (drop offset bytes)
grown a offset k n xs ys bytes within room few first next =
    let rest = drop offset bytes in
    let size : length (take a rest) ≡ a = ap length (sym first) ∙ length-take-le a xs within in
    front_is a k n xs ys within room few ∙
    ap (λ l. l ++ take n ys) first ∙
    ap (λ l. take a rest ++ l) (next ∙ ap (take n) (sym (drop-drop a offset bytes))) ∙
    sym (subst (λ m. take (m + n) (take a rest ++ drop a rest) ≡ take a rest ++ take n (drop a rest))
    size (take-append-add (take a rest) (drop a rest) n)) ∙
    ap (take (a + n)) (take-append-drop a rest)

-- The same of bytes that may not be known.
pub grown_if_known : (known : Option (List ℕ)) (a offset at k n : ℕ) (xs ys : List ℕ) →
    at ≡ offset + a → a ≤ length xs → length ys ≡ k → n ≤ k →
    IfSome known (λ bytes. take a xs ≡ take a (drop offset bytes)) →
    IfSome known (λ bytes. (take n ys ≡ take n (drop at bytes))
    × (n ≡ 0 → 0 < length ys → length bytes ≤ at)) →
    IfSome known (λ bytes. take (a + n) (put_mid a k xs ys) ≡ take (a + n) (drop offset bytes))
grown_if_known None a offset at k n xs ys is within room few first next = first
grown_if_known (Some bytes) a offset at k n xs ys is within room few first next =
    grown a offset k n xs ys bytes within room few first
    (next.0 ∙ ap (λ m. take n (drop m bytes)) is)
