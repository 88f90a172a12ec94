-- Why an output is not written whole, or what is found by a root.
use Rattle.prolly_fault.specs.declared.fault.Fault.{Fault}
use Rattle.prolly_fault.specs.declared.fault.Fault.TheVariants as faults
use Rattle.prolly_fault.specs.declared.output_fault.OutputFault.{OutputFault}
use Rattle.prolly_fault.specs.declared.output_fault.OutputFault.TheVariants.{Memory, Write}
use Rattle.prolly_fault.specs.declared.root_output_fault.RootOutputFault.{RootOutputFault}
use Rattle.prolly_fault.specs.declared.root_output_fault.RootOutputFault.TheVariants.{Output}
use Rattle.prolly_fault.specs.declared.root_output_fault.RootOutputFault.TheVariants.{Root}

-- The fault of the command that it is.
abbrev pub told : OutputFault → Fault
told Memory = faults.Memory
told Write = faults.Write

-- The same of what is found by a root.
abbrev pub told_stop : RootOutputFault → Fault
told_stop (Root fault) = faults.Root fault
told_stop (Output fault) = told fault
