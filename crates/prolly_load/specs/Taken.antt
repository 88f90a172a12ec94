-- What is taken out of the unparsed bytes.
use Rattle.std.specs.Prelude.{◌≡◌, ℕ, drop, Some}
use Rattle.prolly_entry.specs.Record.{Record as RecordValue}
use Rattle.prolly_entry.specs.NextRecord.{IsNext, IsUndecided, IsFlawed}
use Rattle.prolly_load.specs.declared.loader.Taken.{Taken}
use Rattle.prolly_load.specs.declared.loader.Taken.TheVariants.{Record, Nothing, Flawed}
use Rattle.prolly_io.specs.ReadBuffer.{Held}

-- The next good record was taken: its bytes are gone from the unparsed ones, and its key is kept.
pub record TakesRecord (limit count : ℕ) (old new : Held) (r : RecordValue) : Type 0 where
  pub len : ℕ
  pub next : IsNext limit count old.kept old.unparsed r len
  pub last_key : new.kept ≡ Some r.key
  pub unparsed : new.unparsed ≡ drop len old.unparsed

-- What was taken, by the answer.
abbrev pub TakesNext : ℕ → ℕ → Held → Held → Taken → Type 0
TakesNext limit count old new (Record r) = TakesRecord limit count old new r
TakesNext limit count old new Nothing =
    IsUndecided limit count old.kept old.unparsed × (new ≡ old)
TakesNext limit count old new (Flawed flaw) = IsFlawed limit count old.kept old.unparsed flaw ×
    (new ≡ old)
