-- What the bytes at hand say of the next record, where more bytes may follow them. (This project's
-- rules.)
use Rattle.std.specs.Prelude.{◌≡◌, ◌≢◌, ℕ, ◌<◌, true, List, ◌++◌, length, Some}
use Rattle.prolly_entry.specs.declared.next.Flaw.{Flaw}
use Rattle.prolly_entry.specs.declared.next.Flaw.TheVariants.{Truncated}
use Rattle.prolly_entry.specs.declared.next.NextRecord.{NextRecord}
use Rattle.prolly_entry.specs.declared.next.NextRecord.TheVariants as next
use Rattle.prolly_entry.specs.Record.{Record}
use Rattle.prolly_entry.specs.Position.{Position, is_before}
use Rattle.prolly_entry.specs.Reading.{next_flaw}
use Rattle.prolly_entry.specs.Front.{IsRecordAt}
use Rattle.prolly_entry.specs.RecordAt.{LiesIn, record_at}

-- The record is the next good one, whatever follows it.
pub record IsNext (limit count : ℕ) (position : Position) (bytes : List ℕ) (r : Record) (len : ℕ)
    : Type 0 where
  pub there : IsRecordAt bytes r len
  pub room : count ≢ limit
  pub rises : is_before position (Some r.key) ≡ true

-- Nothing is decided: there are no bytes, or they are cut, and more of them may bring a good
-- record. They are fewer than the greatest record has.
pub record IsUndecided (limit count : ℕ) (position : Position) (bytes : List ℕ) : Type 0 where
  pub few : length bytes < 66566
  pub cut : 0 < length bytes → next_flaw limit count position bytes ≡ Some Truncated

-- The next record has this flaw, whatever follows the bytes.
pub record IsFlawed (limit count : ℕ) (position : Position) (bytes : List ℕ) (flaw : Flaw) : Type 0
  where
    pub some : 0 < length bytes
    pub is : (more : List ℕ) → next_flaw limit count position (bytes ++ more) ≡ Some flaw

-- What the bytes say of the next record behind `count` good ones, at most `limit`, of which the
-- last stands at the position.
abbrev pub IsNextRecord : ℕ → ℕ → Position → List ℕ → NextRecord → Type 0
IsNextRecord limit count position bytes (next.Record at) =
    IsNext limit count position bytes (record_at bytes at) at.len × LiesIn bytes at
IsNextRecord limit count position bytes next.More = IsUndecided limit count position bytes
IsNextRecord limit count position bytes (next.Flawed flaw) =
    IsFlawed limit count position bytes flaw
