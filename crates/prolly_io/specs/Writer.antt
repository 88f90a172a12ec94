-- How far a writer of a chunk file is.
use Rattle.std.specs.Prelude.{◌≡◌, ◌≢◌, ◌↔◌, ℕ, ◌+◌, min, Bool, true, false, ◌++◌, Result, IsErr}
use Rattle.std.specs.Prelude.{OnOk, OnErr, IfOk}
use Rattle.prolly_entry.specs.declared.version.Version.{Version}
use Rattle.prolly_tree.specs.Events.{greatest_count}
use Rattle.prolly_tree.specs.File.{header}
use Rattle.prolly_io.specs.declared.format.writer.WriteFault.{WriteFault}
use Rattle.prolly_io.specs.Failures.{CountsFailure}
use Rattle.prolly_io.specs.Sink.{SinkView, TakesPrefix}

-- The number of chunks that it wrote, and whether a call of it failed.
pub record Progress : Type 0 where
  pub chunks : ℕ
  pub has_failed : Bool

-- The count after one more chunk. It stays at the greatest one.
abbrev pub next_count : ℕ → ℕ
next_count chunks = min greatest_count (chunks + 1)

-- What comes of writing the header to a sink that was seen as `old` and is seen as `new`.
pub record WritesHeader (version : Version) (bits : ℕ) (old new : SinkView)
    (result : Result Progress WriteFault) : Type 0 where
  pub written : old.is_keeping ≡ true → OnOk result (new.taken ≡ old.taken ++ header version bits)
  pub part : old.is_keeping ≡ true → OnErr result
      (TakesPrefix old.taken new.taken (header version bits))
  pub begun : IfOk result (λ writer. writer ≡ record { chunks = 0; has_failed = false })
  pub fault : IsErr result ↔ (new.failures ≢ old.failures)
  pub failures : CountsFailure old.failures new.failures result
  pub keeping : old.is_keeping ≡ true → new.is_keeping ≡ true
