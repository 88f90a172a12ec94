-- Keys that come twice, and the numbers that records carry.
use Rattle.std.specs.Prelude.{◌≡◌, ◌≤◌, ℕ, suc, List, [], ◌∷◌, length, nat_lt, Option, Some, None}
use Rattle.std.specs.Prelude.{◌+◌, if◌then◌else◌, min, slice_index_or, take}
use Rattle.std.specs.Int.{w64, to_be_bytes, from_be_bytes}
use Rattle.prolly_entry.specs.Record.{Record}
use Rattle.prolly_merge.specs.Unique.{records_with}
use Rattle.prolly_merge.specs.declared.unique.Doubled.{Doubled as DoubledRecords}
use Rattle.prolly_sort.specs.declared.fault.DoubledKey.{DoubledKey}
use Rattle.prolly_sort.specs.declared.fault.SorterFault.{SorterFault}
use Rattle.prolly_sort.specs.declared.fault.SorterFault.TheVariants.{Store, Doubled}
use Rattle.prolly_sort.specs.declared.key_rule.KeyRule.{KeyRule}
use Rattle.prolly_sort.specs.declared.key_rule.KeyRule.TheVariants.{LastCounts, Unique}
use Rattle.prolly_sort.specs.Run.{AreDoubled}

-- No two of the records have one key.
abbrev pub ComesOnce : List Record → Type 0
ComesOnce records = (key : List ℕ) → length (records_with key records) ≤ 1

-- Where each key is to come once, it does.
abbrev pub Obeys : KeyRule → List Record → Type 0
Obeys LastCounts came = Unit {0}
Obeys Unique came = ComesOnce came

-- The number in the first eight bytes of a value, 0 where it has fewer.
abbrev pub number_in : Option (List ℕ) → ℕ
number_in None = 0
number_in (Some value) = if nat_lt (length value) 8 then 0 else from_be_bytes w64 (take 8 value)

-- The record that carries a number at a key.
abbrev pub number_record : ℕ → List ℕ → Record
number_record number key = record { key = key; value = Some (to_be_bytes w64 number) }

-- The keys of records with the numbers of the records, which go up by one, from this one on.
abbrev pub numbered : ℕ → List Record → List Record
numbered n [] = []
numbered n (r ∷ records) = number_record n r.key ∷ numbered (suc n) records

-- The numbers that records carry go up by one, from this one on.
abbrev pub CountUpFrom : ℕ → List Record → Type 0
CountUpFrom n [] = Unit {0}
CountUpFrom n (r ∷ records) = (number_in r.value ≡ n) × CountUpFrom (suc n) records

-- The number of the record that stands this far behind that of a number.
abbrev pub number_behind : ℕ → ℕ → ℕ
number_behind before number = min (before + number) 0xFFFF_FFFF_FFFF_FFFF

-- Each record carries its number, and there are no more than numbers.
abbrev pub AreNumbered : List Record → Type 0
AreNumbered records = CountUpFrom 0 records × (length records ≤ 0xFFFF_FFFF_FFFF_FFFF)

-- Two records have one key, and carry these numbers, the earlier record the first one.
pub record AreTold (records : List Record) (a b : ℕ) : Type 0 where
  pub first : ℕ
  pub second : ℕ
  pub doubled : AreDoubled records first second
  pub first_is : (d : Record) → number_in (slice_index_or records first d).value ≡ a
  pub second_is : (d : Record) → number_in (slice_index_or records second d).value ≡ b

-- The fault of a run as it is told: the records of the run carry the numbers from this one on.
abbrev pub fault_behind : ℕ → DoubledKey → SorterFault
fault_behind before two = Doubled (number_behind before two.first) (number_behind before two.second)

-- The numbers that two records with one key carry.
abbrev pub doubled_fault : DoubledRecords → SorterFault
doubled_fault doubled = Doubled (number_in doubled.first.value) (number_in doubled.second.value)

-- Two numbers are told by this rule only where each key is to come once, and of them this is so.
abbrev pub IsToldOf : KeyRule → (ℕ → ℕ → Type 0) → SorterFault → Type 0
IsToldOf rule told (Store fault) = Unit {0}
IsToldOf LastCounts told (Doubled a b) = ⊥
IsToldOf Unique told (Doubled a b) = told a b
