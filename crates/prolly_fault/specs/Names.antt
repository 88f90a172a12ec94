-- What a line says of a file that it names. (This project's texts.)
use Rattle.std.specs.Prelude.{ℕ, List, codes}
use Rattle.prolly_fault.specs.declared.name_fault.NameFault.{NameFault}
use Rattle.prolly_fault.specs.declared.name_fault.NameFault.TheVariants.{CannotOpen}
use Rattle.prolly_fault.specs.declared.name_fault.NameFault.TheVariants.{CannotReplace}
use Rattle.prolly_fault.specs.declared.name_fault.NameFault.TheVariants.{IsInput}
use Rattle.prolly_fault.specs.declared.name_fault.NameFault.TheVariants.{IsPrintedTo}
use Rattle.prolly_fault.specs.declared.name_fault.NameFault.TheVariants.{IsReadTwice}
use Rattle.prolly_fault.specs.declared.name_fault.NameFault.TheVariants.{NotChunkFile}
use Rattle.prolly_fault.specs.declared.name_fault.NameFault.TheVariants.{NotProof}
use Rattle.prolly_fault.specs.declared.name_fault.NameFault.TheVariants.{NotRecordFile}
use Rattle.prolly_fault.specs.declared.name_fault.NameFault.TheVariants.{NotLines, NotEmpty}
use Rattle.prolly_fault.specs.declared.name_fault.NameFault.TheVariants.{IsBusy}

-- What a line says of a file, before its name.
abbrev pub name_fault_text : NameFault → List ℕ
name_fault_text CannotOpen = codes "cannot open "
name_fault_text CannotReplace = codes "cannot replace "
name_fault_text IsInput = codes "OUT is also an input: "
name_fault_text IsPrintedTo = codes "standard output is also an input: "
name_fault_text IsReadTwice = codes "one pipe is two inputs: "
name_fault_text NotChunkFile = codes "OUT is not a chunk file: "
name_fault_text NotProof = codes "OUT is not a proof: "
name_fault_text NotRecordFile = codes "OUT is not a record file: "
name_fault_text NotLines = codes "OUT is not a file of lines: "
name_fault_text NotEmpty = codes "OUT is not empty, and no files are named after it: "
name_fault_text IsBusy = codes "another run writes OUT: "
