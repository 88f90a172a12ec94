-- What comes of writing bytes to a sink.
use Rattle.std.specs.Prelude.{◌≡◌, ℕ, true, List, ◌++◌, Result, OnOk, OnErr}
use Rattle.prolly_io.specs.Failures.{CountsFailure}
use Rattle.prolly_io.specs.Sink.{SinkView, TakesPrefix}

-- All of the bytes were to be written to a sink that was seen as `old` and is seen as `new`: a sink
-- that keeps what it takes took them all, or, at an error, some prefix of them, and keeps what it
-- takes from then on too; an error is one failure of it, and there is no other.
pub record Writes {T E : Type 0} (wanted : List ℕ) (old new : SinkView) (result : Result T E) : Type
    0 where
  pub written : old.is_keeping ≡ true → OnOk result (new.taken ≡ old.taken ++ wanted)
  pub part : old.is_keeping ≡ true → OnErr result (TakesPrefix old.taken new.taken wanted)
  pub failures : CountsFailure old.failures new.failures result
  pub keeping : old.is_keeping ≡ true → new.is_keeping ≡ true
