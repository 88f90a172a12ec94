-- How a survey is told of what was passed.
use Rattle.std.specs.Prelude.{◌≡◌, ℕ, ◌+◌, ◌≤◌, List, [], ◌∷◌, length, Option, Some, None}
use Rattle.std.specs.Prelude.{IfSome, option_map}
use Rattle.prolly_entry.specs.declared.next.Flaw.{Flaw}
use Rattle.prolly_entry.specs.declared.next.Flaw.TheVariants.{Truncated, KeyTooLong, ValueTooLong}
use Rattle.prolly_entry.specs.declared.next.Flaw.TheVariants.{OutOfOrder, TooManyRecords}
use Rattle.prolly_entry.specs.Reading.{key_length}
use Rattle.prolly_load.specs.declared.tally.FlawedRecord.{FlawedRecord}
use Rattle.prolly_load.specs.declared.tally.Survey.{Survey}
use Rattle.prolly_load.specs.declared.tally.Tally.{Tally}
use Rattle.prolly_io.specs.ReadBuffer.{Held}
use Rattle.prolly_load.specs.Survey.{IsSurvey, key_bytes, told_key}

-- The key of a record with this flaw is whole, where the flaw lies behind it.
abbrev pub HasToldKey : Flaw → List ℕ → Type 0
HasToldKey Truncated bytes = Unit {0}
HasToldKey KeyTooLong bytes = Unit {0}
HasToldKey ValueTooLong bytes = 2 + key_length bytes ≤ length bytes
HasToldKey OutOfOrder bytes = 2 + key_length bytes ≤ length bytes
HasToldKey TooManyRecords bytes = Unit {0}

-- The flawed record that the bytes begin with is told.
pub record TellsFlawed (flaw : Flaw) (bytes : List ℕ) (flawed : FlawedRecord) : Type 0 where
  pub flaw_is : flawed.flaw ≡ flaw
  pub key_is : key_bytes flawed.key ≡ told_key flaw bytes

-- The flaw of unparsed bytes where no more come: they are cut, or there are none.
abbrev pub cut_in : List ℕ → Option Flaw
cut_in [] = None
cut_in (b ∷ unparsed) = Some Truncated

-- What was counted is told, with the last key, which is kept, and the flaw of the unparsed bytes.
pub record Tells (tally : Tally) (buffered : Held) (flaw : Option Flaw) (survey : Survey) : Type
    0 where
  pub records : survey.records ≡ tally.records
  pub removals : survey.removals ≡ tally.removals
  pub bytes : survey.bytes ≡ tally.bytes
  pub first_key : survey.first_key ≡ tally.first_key
  pub last_key : key_bytes survey.last_key ≡ buffered.kept
  pub flaw_is : option_map (λ flawed. flawed.flaw) survey.flawed ≡ flaw
  pub key_is : IfSome survey.flawed
      (λ flawed. key_bytes flawed.key ≡ told_key flawed.flaw buffered.unparsed)

-- No record was passed yet.
pub record NonePassed (tally : Tally) (buffered : Held) : Type 0 where
  pub tally_is : tally ≡ record { records = 0; removals = 0; bytes = 0; first_key = None }
  pub last_key : buffered.kept ≡ None
  pub unparsed : buffered.unparsed ≡ []

-- What was counted of the bytes, and the flaw behind it: whatever tells them is a survey of the
-- bytes.
abbrev pub IsCounted : List ℕ → ℕ → Tally → Held → Option Flaw → Type 0
IsCounted bytes limit tally buffered flaw = (survey : Survey) → Tells tally buffered flaw survey →
    IsSurvey bytes limit survey
