-- Relations between the values of two lists, place by place.
use Rattle.std.specs.Prelude.{ℕ, zero, suc, List, [], ◌∷◌}

-- The lists have one length, and the relation holds at each place.
abbrev pub Each : {A B : Type 0} → (A → B → Type 0) → List A → List B → Type 0
Each R [] [] = Unit {0}
Each R [] (y ∷ ys) = ⊥
Each R (x ∷ xs) [] = ⊥
Each R (x ∷ xs) (y ∷ ys) = R x y × Each R xs ys

-- The first relation holds at the first places, of this number, and the other one behind them.
abbrev pub EachUpto : {A B : Type 0} → (A → B → Type 0) → (A → B → Type 0) → ℕ → List A → List B →
    Type 0
EachUpto R S zero xs ys = Each S xs ys
EachUpto R S (suc k) [] ys = ⊥
EachUpto R S (suc k) (x ∷ xs) [] = ⊥
EachUpto R S (suc k) (x ∷ xs) (y ∷ ys) = R x y × EachUpto R S k xs ys
