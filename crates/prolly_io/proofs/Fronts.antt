-- Bytes that are read behind the first ones of a buffer.
use Rattle.std.proofs.Common.{◌≡◌, ℕ, ◌+◌, ◌≤◌, List, ◌++◌, length, take, sym, ap, ◌∙◌, subst}
use Rattle.std.proofs.Common.{arith}
use Rattle.std.proofs.Common.{refl}
use Rattle.std.proofs.Math.Seq.{take-append-add}
use Rattle.std.proofs.lemmas.List.{append_assoc, length-take-le, take-take}
use Rattle.std.proofs.lemmas.Slice.{take-put_mid}
use borrow.Rule.Slice.PartMut.{put_mid}

module _ (a k n : ℕ) (xs ys : List ℕ) (within : a ≤ length xs) (room : length ys ≡ k)
    (few : n ≤ k) where
  -- the first ones, and the first n of what was put behind them
  pub front_is : take (a + n) (put_mid a k xs ys) ≡ take a xs ++ take n ys
  front_is =
      sym (take-take (a + n) (a + length ys) (put_mid a k xs ys) (omega arith)) ∙
      ap (take (a + n)) (take-put_mid a k xs ys (a + length ys) refl within) ∙
      subst (λ m. take (m + n) (take a xs ++ ys) ≡ take a xs ++ take n ys)
      (length-take-le a xs within) (take-append-add (take a xs) ys n)

  pub front_grown : (left more : List ℕ) → left ≡ take n ys ++ more →
      take a xs ++ left ≡ take (a + n) (put_mid a k xs ys) ++ more
  front_grown left more is =
      ap (λ l. take a xs ++ l) is ∙ sym (append_assoc (take a xs) (take n ys) more) ∙
      ap (λ l. l ++ more) (sym front_is)
