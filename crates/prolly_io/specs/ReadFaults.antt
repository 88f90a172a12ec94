-- The faults of reading. (This project's rules.)
use Rattle.prolly_io.specs.declared.device.part_reader.ReadFault.{ReadFault}
use Rattle.prolly_io.specs.declared.device.part_reader.ReadFault.TheVariants as read
use Rattle.prolly_io.specs.declared.device.whole.WholeFault.{WholeFault}
use Rattle.prolly_io.specs.declared.device.whole.WholeFault.TheVariants as whole

-- The fault of a read, as one of reading a source whole.
abbrev pub whole_fault : ReadFault → WholeFault
whole_fault read.Memory = whole.Memory
whole_fault read.Read = whole.Read
