-- Records: what a record file says of a key. (This project's format.)
use Rattle.std.specs.Prelude.{ℕ, ◌≤◌, List, length, map, Option, Some, None}

-- A record puts a value at its key, or removes the key (None).
pub record Record : Type 0 where
  pub key : List ℕ
  pub value : Option (List ℕ)

-- A value that is put has at most 65,536 bytes.
abbrev pub IsChange : Option (List ℕ) → Type 0
IsChange None = Unit {0}
IsChange (Some value) = length value ≤ 65536

-- The record is lawful: its key has at most 1,024 bytes, and so has a value that it puts at most
-- 65,536.
pub record IsRecord (r : Record) : Type 0 where
  pub key : length r.key ≤ 1024
  pub value : IsChange r.value

-- The keys of records, in their order.
abbrev pub keys_of : List Record → List (List ℕ)
keys_of records = map (λ r. r.key) records
