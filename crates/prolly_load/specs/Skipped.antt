-- What is passed in the unparsed bytes.
use Rattle.std.specs.Prelude.{◌≡◌, ℕ, Bool, length}
use Rattle.prolly_entry.specs.NextRecord.{IsUndecided, IsFlawed}
use Rattle.prolly_entry.specs.Record.{Record as RecordValue}
use Rattle.prolly_entry.specs.Spelling.{record_spelling}
use Rattle.prolly_load.specs.declared.surveyor.Skipped.{Skipped}
use Rattle.prolly_load.specs.declared.surveyor.Skipped.TheVariants.{Record, Nothing, Flawed}
use Rattle.prolly_io.specs.ReadBuffer.{Held}
use Rattle.prolly_load.specs.Survey.{is_removal}
use Rattle.prolly_load.specs.Taken.{TakesRecord}

-- The next good record is gone from the unparsed bytes, and so it is told whether it removes its
-- key, and how many bytes it takes.
pub record PassesRecord (limit count : ℕ) (old new : Held) (removes : Bool) (len : ℕ) : Type 0
  where
    pub passed : RecordValue
    pub taken : TakesRecord limit count old new passed
    pub removes_is : removes ≡ is_removal passed
    pub len_is : len ≡ length (record_spelling passed)

-- What was passed, by the answer.
abbrev pub Skips : ℕ → ℕ → Held → Held → Skipped → Type 0
Skips limit count old new (Record removes len) = PassesRecord limit count old new removes len
Skips limit count old new Nothing = IsUndecided limit count old.kept old.unparsed × (new ≡ old)
Skips limit count old new (Flawed flaw) = IsFlawed limit count old.kept old.unparsed flaw ×
    (new ≡ old)
