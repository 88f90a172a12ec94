-- The bytes of a source as they come.
use Rattle.std.specs.Prelude.{◌≡◌, ◌≢◌, ◌↔◌, ℕ, ◌≤◌, true, List, length, slice_index, Result}
use Rattle.std.specs.Prelude.{MatchResult}
use Rattle.prolly_io.specs.Frame.{has_no_frame}
use Rattle.prolly_io.specs.Source.{SourceView}

-- There are enough bytes to tell what stands where a frame is due: a whole frame, or something else
-- than the beginning of one.
pub record IsFilled (bytes : List ℕ) : Type 0 where
  pub enough : 30 ≤ length bytes
  pub decided : has_no_frame bytes ≡ true → slice_index bytes 0 ≢ 0x43

-- A source was read: an honest one stays honest, and a steady one steady, and no read of that
-- failed.
pub record WasRead (old new : SourceView) : Type 0 where
  pub never : old.is_steady ≡ true → new.failures ≡ old.failures
  pub honest : old.is_honest ≡ true → new.is_honest ≡ true
  pub steady : old.is_steady ≡ true → new.is_steady ≡ true

-- So it was, and a read failed just where this fault is told.
abbrev pub Reads : {T E : Type 0} → SourceView → SourceView → E → Result T E → Type 0
Reads old new told result = WasRead old new ×
    MatchResult result (λ _. new.failures ≡ old.failures)
    (λ fault. (fault ≡ told) ↔ (new.failures ≢ old.failures))
