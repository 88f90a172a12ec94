-- What a survey of a record file says.
use Rattle.std.specs.Prelude.{◌≡◌, ℕ, Bool, List, [], ◌∷◌, length, take, drop, Option, Some, None}
use Rattle.std.specs.Prelude.{IfSome, is_none, option_map}
use Rattle.std.specs.Global.{Vec}
use Rattle.std.specs.List.{filter, flat_map}
use Rattle.prolly_entry.specs.declared.next.Flaw.{Flaw}
use Rattle.prolly_entry.specs.declared.next.Flaw.TheVariants.{Truncated, KeyTooLong, ValueTooLong}
use Rattle.prolly_entry.specs.declared.next.Flaw.TheVariants.{OutOfOrder, TooManyRecords}
use Rattle.prolly_entry.specs.Position.{Position, last_position}
use Rattle.prolly_entry.specs.Reading.{IsReading, key_length}
use Rattle.prolly_entry.specs.Record.{Record}
use Rattle.prolly_entry.specs.Spelling.{record_spelling}
use Rattle.prolly_load.specs.declared.tally.Survey.{Survey}

-- The record removes a key.
abbrev pub is_removal : Record → Bool
is_removal r = is_none r.value

-- The key of the first record, or before all keys where there is none.
abbrev pub first_position : List Record → Position
first_position [] = None
first_position (r ∷ rs) = Some r.key

-- The bytes of a key, where there is one.
abbrev pub key_bytes : Option (Vec ℕ) → Option (List ℕ)
key_bytes key = option_map (λ bytes. bytes.items) key

-- The key of the flawed record that bytes begin with, where the flaw lies behind it.
abbrev pub told_key : Flaw → List ℕ → Option (List ℕ)
told_key Truncated bytes = None
told_key KeyTooLong bytes = None
told_key ValueTooLong bytes = Some (take (key_length bytes) (drop 2 bytes))
told_key OutOfOrder bytes = Some (take (key_length bytes) (drop 2 bytes))
told_key TooManyRecords bytes = None

-- The survey is right of a record file of these bytes: there are good records, which are the
-- reading of the bytes with the flaw that the survey tells, or with a clean end where it tells
-- none; and it says how many they are, how many of them remove a key, how many bytes they take, the
-- keys of the first and the last of them, and the key of the flawed record behind them.
pub record IsSurvey (bytes : List ℕ) (limit : ℕ) (survey : Survey) : Type 0 where
  pub good : List Record
  pub reading : IsReading bytes limit good (option_map (λ flawed. flawed.flaw) survey.flawed)
  pub records_are : survey.records ≡ length good
  pub removals_are : survey.removals ≡ length (filter is_removal good)
  pub bytes_are : survey.bytes ≡ length (flat_map record_spelling good)
  pub first_is : key_bytes survey.first_key ≡ first_position good
  pub last_is : key_bytes survey.last_key ≡ last_position good
  pub key_is : IfSome survey.flawed
      (λ flawed. key_bytes flawed.key ≡ told_key flawed.flaw (drop survey.bytes bytes))
