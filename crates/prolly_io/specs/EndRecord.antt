-- Which bytes are an end record. (This project's format.)
use Rattle.std.specs.Prelude.{◌≡◌, ℕ, List, ◌∷◌, ◌++◌, length}

-- The bytes are an end record with this root: the letter E, the root, and eight bytes more.
pub record NamesRoot (root bytes : List ℕ) : Type 0 where
  pub count : List ℕ
  pub is : bytes ≡ 0x45 ∷ root ++ count
  pub root_size : length root ≡ 20
  pub count_size : length count ≡ 8

-- They are no end record, of whatever root.
abbrev pub IsNoEnd : List ℕ → Type 0
IsNoEnd bytes = (root : List ℕ) → NamesRoot root bytes → ⊥
