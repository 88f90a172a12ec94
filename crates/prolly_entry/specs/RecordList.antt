-- What all records of bytes are.
use Rattle.std.specs.Prelude.{◌≡◌, ℕ, List, [], ◌∷◌, length, Some, None}
use Rattle.prolly_entry.specs.declared.next.Flaw.{Flaw}
use Rattle.prolly_entry.specs.declared.next.Flaw.TheVariants as flaws
use Rattle.prolly_entry.specs.declared.record_file.RecordFault.{RecordFault}
use Rattle.prolly_entry.specs.declared.record_file.RecordFault.TheVariants.{Memory, Truncated}
use Rattle.prolly_entry.specs.declared.record_file.RecordFault.TheVariants.{KeyTooLong}
use Rattle.prolly_entry.specs.declared.record_file.RecordFault.TheVariants.{ValueTooLong}
use Rattle.prolly_entry.specs.declared.record_file.RecordFault.TheVariants.{OutOfOrder}
use Rattle.prolly_entry.specs.declared.record_file.RecordFault.TheVariants.{TooManyRecords}
use Rattle.prolly_entry.specs.Pair.{Pair}
use Rattle.prolly_entry.specs.Record.{Record}
use Rattle.prolly_entry.specs.Reading.{IsReading}
use Rattle.prolly_entry.specs.Overlay.{overlay}

-- The ending of the bytes is clean, and the pairs are the overlay of their good records: those that
-- are put.
pub record ArePairsOf (bytes : List ℕ) (limit : ℕ) (pairs : List Pair) : Type 0 where
  pub good : List Record
  pub reading : IsReading bytes limit good None
  pub are : pairs ≡ overlay (good ∷ [])

-- The ending of the bytes is this flaw, behind so many good records.
pub record HasFlawAt (bytes : List ℕ) (limit place : ℕ) (flaw : Flaw) : Type 0 where
  pub good : List Record
  pub reading : IsReading bytes limit good (Some flaw)
  pub place_is : place ≡ length good

-- The ending of the bytes is this flaw.
pub record HasFlaw (bytes : List ℕ) (limit : ℕ) (flaw : Flaw) : Type 0 where
  pub good : List Record
  pub reading : IsReading bytes limit good (Some flaw)

-- The fault is the ending of the bytes, with its place; want of memory may come over any bytes.
abbrev pub IsFaultOf : List ℕ → ℕ → RecordFault → Type 0
IsFaultOf bytes limit Memory = Unit {0}
IsFaultOf bytes limit (Truncated place) = HasFlawAt bytes limit place flaws.Truncated
IsFaultOf bytes limit (KeyTooLong place) = HasFlawAt bytes limit place flaws.KeyTooLong
IsFaultOf bytes limit (ValueTooLong place) = HasFlawAt bytes limit place flaws.ValueTooLong
IsFaultOf bytes limit (OutOfOrder place) = HasFlawAt bytes limit place flaws.OutOfOrder
IsFaultOf bytes limit TooManyRecords = HasFlaw bytes limit flaws.TooManyRecords

-- A flaw with its place.
abbrev pub record_fault : Flaw → ℕ → RecordFault
record_fault flaws.Truncated place = Truncated place
record_fault flaws.KeyTooLong place = KeyTooLong place
record_fault flaws.ValueTooLong place = ValueTooLong place
record_fault flaws.OutOfOrder place = OutOfOrder place
record_fault flaws.TooManyRecords place = TooManyRecords
