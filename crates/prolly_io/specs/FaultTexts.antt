-- What is said of faults. (This project's texts.)
use Rattle.std.specs.Prelude.{ℕ, List, codes}
use Rattle.prolly_io.specs.declared.device.part_reader.ReadFault.{ReadFault}
use Rattle.prolly_io.specs.declared.device.part_reader.ReadFault.TheVariants as reads
use Rattle.prolly_io.specs.declared.device.whole.WholeFault.{WholeFault}
use Rattle.prolly_io.specs.declared.device.whole.WholeFault.TheVariants as wholes

-- What is said of a source of which no more bytes were read.
abbrev pub read_fault_text : ReadFault → List ℕ
read_fault_text reads.Memory = codes "out of memory"
read_fault_text reads.Read = codes "read failed"

-- What is said of a source that was not read whole.
abbrev pub whole_fault_text : WholeFault → List ℕ
whole_fault_text wholes.Memory = codes "out of memory"
whole_fault_text wholes.Read = codes "read failed"
whole_fault_text wholes.TooLong = codes "input too long"
