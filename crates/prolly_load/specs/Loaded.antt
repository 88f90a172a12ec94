-- What a loader sends of a record file, and how it ends.
use Rattle.std.specs.Prelude.{◌≡◌, ◌≢◌, ℕ, Bool, true, List, ◌++◌, length, Option, Some, None, ◌⊎◌}
use Rattle.prolly_entry.specs.declared.next.Flaw.{Flaw}
use Rattle.prolly_entry.specs.declared.next.Flaw.TheVariants as flaws
use Rattle.prolly_entry.specs.Prefix.{IsPrefix}
use Rattle.prolly_entry.specs.Reading.{Begins, IsReading}
use Rattle.prolly_entry.specs.Record.{Record}
use Rattle.prolly_link.specs.declared.message.End.{End}
use Rattle.prolly_link.specs.declared.message.End.TheVariants.{Clean, Fault}
use Rattle.prolly_link.specs.declared.fault.RunFault.{RunFault}
use Rattle.prolly_link.specs.declared.fault.RunFault.TheVariants as faults

-- The records are the good ones of the bytes, and these end with them or in the middle of a record.
pub record IsReadTo (bytes : List ℕ) (limit : ℕ) (records : List Record) : Type 0 where
  pub ending : Option Flaw
  pub reading : IsReading bytes limit records ending
  pub is_cut : (ending ≡ None) ⊎ (ending ≡ Some flaws.Truncated)

-- A source that had some bytes left handed out the first of them, and these show no flaw: they end
-- behind a good record, or in the middle of one.
pub record ShowsNoFlaw (limit : ℕ) (bytes left : List ℕ) : Type 0 where
  pub handed : List ℕ
  pub records : List Record
  pub kept : bytes ≡ handed ++ left
  pub read_to : IsReadTo handed limit records

-- The records are some first good ones of the bytes.
pub record AreFirstGood (bytes : List ℕ) (limit : ℕ) (records : List Record) : Type 0 where
  pub rest : List ℕ
  pub begins : Begins bytes limit records rest
  pub prefix : (good : List Record) (ending : Option Flaw) → IsReading bytes limit good ending →
      IsPrefix records good

-- The records and the fault are what the bytes of this file come to: the good records and the flaw
-- of the next one, at its place; those up to a failed read; or some first ones, where memory was
-- refused. There is no other fault.
abbrev pub FailsAs : ℕ → ℕ → List ℕ → List Record → RunFault → Type 0
FailsAs file limit bytes records faults.Memory = AreFirstGood bytes limit records
FailsAs file limit bytes records (faults.Read f) = (f ≡ file) × IsReadTo bytes limit records
FailsAs file limit bytes records (faults.Truncated f place) =
    (f ≡ file) × (place ≡ length records) × IsReading bytes limit records (Some flaws.Truncated)
FailsAs file limit bytes records (faults.KeyTooLong f place) =
    (f ≡ file) × (place ≡ length records) × IsReading bytes limit records (Some flaws.KeyTooLong)
FailsAs file limit bytes records (faults.ValueTooLong f place) =
    (f ≡ file) × (place ≡ length records) × IsReading bytes limit records (Some flaws.ValueTooLong)
FailsAs file limit bytes records (faults.OutOfOrder f place) =
    (f ≡ file) × (place ≡ length records) × IsReading bytes limit records (Some flaws.OutOfOrder)
FailsAs file limit bytes records (faults.TooManyRecords f) =
    (f ≡ file) × IsReading bytes limit records (Some flaws.TooManyRecords)
FailsAs file limit bytes records other = ⊥

-- The records and the end are what the bytes of this file come to.
abbrev pub EndsAs : ℕ → ℕ → List ℕ → List Record → End → Type 0
EndsAs file limit bytes records Clean = IsReading bytes limit records None
EndsAs file limit bytes records (Fault fault) = FailsAs file limit bytes records fault

-- A source that had some bytes left handed out the first of them, and the records sent and the end
-- are what these come to; where no read failed, also what all the bytes come to. (Of a source that
-- is not honest nothing is known but the bytes handed out.)
pub record IsLoaded (file limit : ℕ) (honest : Bool) (left left' : List ℕ)
    (before after : List Record) (end : End) : Type 0 where
  pub handed : List ℕ
  pub records : List Record
  pub kept : honest ≡ true → left ≡ handed ++ left'
  pub sent : after ≡ before ++ records
  pub ends : EndsAs file limit handed records end
  pub whole : honest ≡ true → end ≢ Fault (faults.Read file) → EndsAs file limit left records end
