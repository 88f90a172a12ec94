-- Two elements in the place of one.
use Rattle.std.specs.Prelude.{◌≡◌, ℕ, List, ◌∷◌, ◌++◌, length}

-- In the new list two elements stand, from a place on, where the old one has one.
pub record IsForked {T : Type 0} (at : ℕ) (old : List T) (one : T) (new : List T) (left right : T)
    : Type 0 where
  pub front : List T
  pub back : List T
  pub place : length front ≡ at
  pub was : old ≡ front ++ one ∷ back
  pub now : new ≡ front ++ left ∷ right ∷ back
