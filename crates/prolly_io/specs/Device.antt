-- What a contract sees of a device that reads anywhere, and what a read gives.
use Rattle.std.specs.Prelude.{◌≡◌, ◌≤◌, ◌<◌, ℕ, Bool, List, length, take, drop, Result, IfOk}

-- What a contract sees of such a device: whether it is honest, so that each read gives the bytes
-- that stand in its place; the bytes, where it is honest; and how many calls failed, modulo 2 ^ 64.
pub record DeviceView : Type 0 where
  pub is_honest : Bool
  pub bytes : List ℕ
  pub failures : ℕ

-- A read into a buffer that gave `Ok(n)` gave the first n bytes from this offset on, and fewer than
-- the buffer has room for only where no more are there.
abbrev pub GivesFrom : {E : Type 0} → List ℕ → ℕ → Result ℕ E → List ℕ → Type 0
GivesFrom bytes offset result buf =
    IfOk result (λ n. take n buf ≡ take (length buf) (drop offset bytes))

-- A read into a buffer that gave `Ok(n)` gave n bytes from this offset on, and none only where no
-- byte stands there, or the buffer has no room.
abbrev pub GivesSome : {E : Type 0} → List ℕ → ℕ → Result ℕ E → List ℕ → Type 0
GivesSome bytes offset result buf = IfOk result (λ n. (take n buf ≡ take n (drop offset bytes))
    × (n ≡ 0 → 0 < length buf → length bytes ≤ offset))
