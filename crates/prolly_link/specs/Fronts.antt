-- What stands in a list before its end.
use Rattle.std.proofs.Common.{◌≡◌, ◌-◌, List, [], ◌∷◌, ◌++◌, length, take, refl, ap, arith}
use Rattle.std.proofs.Common.{length-append}

module _ {T : Type 0} where
  -- what stands before `rest` in `all`, where `all` ends with it
  abbrev pub before_rest : List T → List T → List T
  before_rest all rest = take (length all - length rest) all

  take-prefix : (xs ys : List T) → take (length xs) (xs ++ ys) ≡ xs
  take-prefix [] ys = refl
  take-prefix (x ∷ xs) ys = ap (λ r. x ∷ r) (take-prefix xs ys)

  front_count : (xs ys : List T) → length (xs ++ ys) - length ys ≡ length xs
  front_count xs ys = omega (arith, length-append xs ys)

  pub front_is : (front rest all : List T) → all ≡ front ++ rest → before_rest all rest ≡ front
  front_is front rest all e = rw (e, front_count front rest) (take-prefix front rest)
