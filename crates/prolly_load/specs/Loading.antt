-- A loading under way, and how one step takes it on.
use Rattle.std.specs.Prelude.{◌≡◌, ℕ, ◌+◌, Bool, true, List, [], ◌∷◌, ◌++◌, length, Result}
use Rattle.std.specs.Prelude.{MatchResult}
use Rattle.prolly_entry.specs.Position.{last_position}
use Rattle.prolly_entry.specs.Reading.{Begins}
use Rattle.prolly_entry.specs.Record.{Record}
use Rattle.prolly_link.specs.declared.message.End.{End}
use Rattle.prolly_link.specs.declared.message.End.TheVariants.{Fault}
use Rattle.prolly_link.specs.declared.fault.RunFault.TheVariants.{Memory}
use Rattle.prolly_io.specs.ReadBuffer.{Held}
use Rattle.prolly_load.specs.Loaded.{IsLoaded}

-- Some records are sent: they begin the bytes that were handed out, and behind them are the
-- unparsed ones. The key of the last one is kept.
pub record IsUnderWay (honest : Bool) (limit count : ℕ) (buffered : Held) (bytes left : List ℕ)
    (before after : List Record) : Type 0 where
  pub handed : List ℕ
  pub records : List Record
  pub kept : honest ≡ true → bytes ≡ handed ++ left
  pub sent : after ≡ before ++ records
  pub begins : Begins handed limit records buffered.unparsed
  pub count_is : count ≡ length records
  pub position_is : buffered.kept ≡ last_position records

-- The record is one more to send. Where it is not sent for want of memory, that is the end of what
-- was sent before it.
pub record GivesOne (file limit count : ℕ) (honest : Bool) (buffered : Held)
    (bytes left : List ℕ) (before after : List Record) (r : Record) : Type 0 where
  pub sent : IsUnderWay honest limit (count + 1) buffered bytes left before (after ++ r ∷ [])
  pub refused : IsLoaded file limit honest bytes left before after (Fault Memory)

-- Wherever a loading stands that has come to `count` records, the step takes it on: it answers one
-- record more, or the end that is due.
abbrev pub GoesOn : ℕ → ℕ → ℕ → Bool → List ℕ → List ℕ → Held → Held → Result Record End →
    Type 0
GoesOn file limit count honest left left' old new result =
    (asked : Bool) (bytes : List ℕ) (before after : List Record) →
    (asked ≡ true → honest ≡ true) →
    IsUnderWay asked limit count old bytes left before after →
    MatchResult result (GivesOne file limit count asked new bytes left' before after)
    (λ end. IsLoaded file limit asked bytes left' before after end)
