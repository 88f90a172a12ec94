-- What is said of faults. (This project's texts.)
use Rattle.std.specs.Prelude.{ℕ, List, ◌++◌, codes}
use Rattle.std.specs.Fmt.{decimal}
use Rattle.prolly_entry.specs.declared.fault_text.FaultText.{FaultText}
use Rattle.prolly_entry.specs.declared.fault_text.FaultText.TheVariants.{Plain, Ending, Holding}
use Rattle.prolly_entry.specs.declared.fault_text.FaultText.TheVariants.{HoldingTwo}
use Rattle.prolly_entry.specs.declared.pair.EntryFault.{EntryFault}
use Rattle.prolly_entry.specs.declared.pair.EntryFault.TheVariants as entries
use Rattle.prolly_entry.specs.declared.record_file.RecordFault.{RecordFault}
use Rattle.prolly_entry.specs.declared.record_file.RecordFault.TheVariants as records

-- A text, in which a number may stand in decimal, or two.
abbrev pub shown_text : FaultText → List ℕ
shown_text (Plain text) = text.now
shown_text (Ending text number) = text.now ++ decimal number
shown_text (Holding before number behind) = before.now ++ decimal number ++ behind.now
shown_text (HoldingTwo before first between second behind) = before.now ++ decimal first ++
    between.now ++ decimal second ++ behind.now

-- What is said of a key or a value that is too long.
abbrev pub entry_fault_text : EntryFault → List ℕ
entry_fault_text entries.KeyTooLong = codes "key too long"
entry_fault_text entries.ValueTooLong = codes "value too long"

-- What is said of bytes that are no record file, or were not read as one.
abbrev pub record_fault_text : RecordFault → List ℕ
record_fault_text records.Memory = codes "out of memory"
record_fault_text (records.Truncated place) = codes "record " ++ decimal place ++ codes " is cut"
record_fault_text (records.KeyTooLong place) = codes "record " ++ decimal place ++
    codes ": key too long"
record_fault_text (records.ValueTooLong place) = codes "record " ++ decimal place ++
    codes ": value too long"
record_fault_text (records.OutOfOrder place) = codes "record " ++ decimal place ++
    codes ": key out of order"
record_fault_text records.TooManyRecords = codes "too many records"
