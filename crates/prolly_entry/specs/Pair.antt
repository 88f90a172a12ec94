-- Pairs of a key and a value. (This project's format.)
use Rattle.std.specs.Prelude.{ℕ, ◌≤◌, List, length}

-- A pair: a key and the value at it, both byte strings.
pub record Pair : Type 0 where
  pub key : List ℕ
  pub value : List ℕ

-- The pair is lawful: its key has at most 1,024 bytes, its value at most 65,536.
pub record IsPair (p : Pair) : Type 0 where
  pub key : length p.key ≤ 1024
  pub value : length p.value ≤ 65536
