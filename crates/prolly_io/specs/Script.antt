-- The devices in memory that follow a script.
use Rattle.std.specs.Prelude.{ℕ, ◌-◌, nat_le, List, Option, Some, None, if◌then◌else◌}

-- The calls until the one that fails, that one included, after one more call. With `None` no call
-- fails any more.
abbrev pub after_call : Option ℕ → Option ℕ
after_call None = None
after_call (Some calls) = if nat_le calls 1 then None else Some (calls - 1)

-- What a source has left to give, how many bytes a read gives of it, the calls until the one that
-- fails, and the failures so far.
pub record SourceScript : Type 0 where
  pub left : List ℕ
  pub step : ℕ
  pub until_failure : Option ℕ
  pub failures : ℕ

-- What a sink took, how many bytes a write takes, the calls until the one that fails, and the
-- failures so far.
pub record SinkScript : Type 0 where
  pub taken : List ℕ
  pub step : ℕ
  pub until_failure : Option ℕ
  pub failures : ℕ
