-- The records that bytes spell.
use Rattle.std.proofs.Common.{◌≡◌, ℕ, ◌<◌, List, [], ◌∷◌, ◌++◌, length, drop, Some, None}
use Rattle.prolly_entry.specs.declared.next.Flaw.{Flaw}
use Rattle.prolly_entry.specs.declared.next.Flaw.TheVariants as flaws
use Rattle.prolly_entry.specs.NextRecord.{IsNext, IsUndecided, IsFlawed}
use Rattle.prolly_entry.specs.Position.{last_position}
use Rattle.prolly_entry.specs.Reading.{Begins, IsReading, OneReading, SomeReading, FirstAreGood}
use Rattle.prolly_entry.specs.Record.{Record}
use Rattle.prolly_entry.proofs.Endings as endings
use Rattle.prolly_entry.proofs.Orders as orders
use Rattle.prolly_entry.proofs.Readings as readings

-- No records begin any bytes.
pub begins_none : (bytes : List ℕ) (limit : ℕ) → Begins bytes limit [] bytes
begins_none = endings.begins_none

-- Records that begin bytes, with the next good record behind them, begin the bytes.
pub begins_more : (bytes : List ℕ) (limit : ℕ) (good : List Record) (rest hand left : List ℕ)
    (r : Record) (len : ℕ) →
    Begins bytes limit good rest → rest ≡ hand ++ left →
    IsNext limit (length good) (last_position good) hand r len →
    Begins bytes limit (good ++ r ∷ []) (drop len hand ++ left)
begins_more = endings.begins_more

-- The last position behind one record more is that of its key.
pub last_more : (rs : List Record) (r : Record) → last_position (rs ++ r ∷ []) ≡ Some r.key
last_more = endings.last_more

-- Records that are all bytes are their reading, which ends clean.
pub ends_clean : (bytes : List ℕ) (limit : ℕ) (good : List Record) → Begins bytes limit good [] →
    IsReading bytes limit good None
ends_clean = endings.ends_clean

-- Where what follows the records is flawed, they are the reading, and the flaw is its ending.
pub ends_flawed : (bytes : List ℕ) (limit : ℕ) (good : List Record) (rest hand left : List ℕ)
    (fault : Flaw) → Begins bytes limit good rest → rest ≡ hand ++ left →
    IsFlawed limit (length good) (last_position good) hand fault →
    IsReading bytes limit good (Some fault)
ends_flawed = endings.ends_flawed

-- Where what follows the records is too short to decide, they are the reading, and it is truncated.
pub ends_cut : (bytes : List ℕ) (limit : ℕ) (good : List Record) (hand : List ℕ) →
    Begins bytes limit good hand → 0 < length hand →
    IsUndecided limit (length good) (last_position good) hand →
    IsReading bytes limit good (Some flaws.Truncated)
ends_cut = endings.ends_cut

-- What begins some bytes begins all that go on behind them.
pub begins_all : (bytes handed left : List ℕ) (limit : ℕ) (records : List Record)
    (unparsed : List ℕ) → Begins handed limit records unparsed → bytes ≡ handed ++ left →
    Begins bytes limit records (unparsed ++ left)
begins_all = orders.begins_all

-- Records that begin bytes are the first ones of their reading.
pub first_are_good : FirstAreGood
first_are_good = orders.first_are_good

-- Bytes have one reading.
pub one_reading : OneReading
one_reading = orders.one_reading

-- Bytes have a reading.
pub reading_is : SomeReading
reading_is = readings.reading_is
