-- Chunk files that are built of record files. (This project's rules.)
use Rattle.std.specs.Prelude.{◌≡◌, ℕ, List, length}
use Rattle.prolly_entry.specs.Cut.{sha512_cut}
use Rattle.prolly_entry.specs.Pair.{Pair}
use Rattle.prolly_entry.specs.RecordList.{ArePairsOf, IsFaultOf}
use Rattle.prolly_entry.specs.Version.{version_byte}
use Rattle.prolly_entry.specs.declared.record_file.RecordFault.{RecordFault}
use Rattle.prolly_entry.specs.declared.record_file.RecordFault.TheVariants as faults
use Rattle.prolly_entry.specs.declared.version.Version.{Version}
use Rattle.prolly_tree.specs.File.{file, root_reference}

-- How many records a record file may have.
abbrev pub record_limit : ℕ
record_limit = 4294967295

-- The bytes are the chunk file of the map of a record file, and this is its root.
pub record IsBuilt (version bits : ℕ) (records bytes root : List ℕ) : Type 0 where
  pub format : Version
  pub format_is : version_byte format ≡ version
  pub pairs : List Pair
  pub are : ArePairsOf records record_limit pairs
  pub bytes_are : bytes ≡ file (sha512_cut bits) format pairs
  pub root_is : root ≡ root_reference (sha512_cut bits) format pairs

-- That chunk file has so many bytes.
pub record HasBuilt (version bits : ℕ) (records : List ℕ) (count : ℕ) : Type 0 where
  pub bytes : List ℕ
  pub root : List ℕ
  pub is : IsBuilt version bits records bytes root
  pub many : count ≡ length bytes

-- The status of a fault of a record file, and the number of the record that it names.
abbrev pub status_of_records : RecordFault → ℕ × ℕ
status_of_records faults.Memory = (2, 0)
status_of_records (faults.Truncated place) = (32, place)
status_of_records (faults.KeyTooLong place) = (33, place)
status_of_records (faults.ValueTooLong place) = (34, place)
status_of_records (faults.OutOfOrder place) = (35, place)
status_of_records faults.TooManyRecords = (36, 0)

-- The bytes are no record file, by this fault.
pub record IsRefusedRecords (records : List ℕ) (status place : ℕ) : Type 0 where
  pub fault : RecordFault
  pub of : IsFaultOf records record_limit fault
  pub is : status_of_records fault ≡ (status, place)
