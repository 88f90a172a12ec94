-- What commands tell of the faults of a set of keys, and of its proof.
use Rattle.prolly_range.specs.declared.fault.SetFault.{SetFault}
use Rattle.prolly_range.specs.declared.fault.SetFault.TheVariants as sets
use Rattle.prolly_range.specs.declared.prove_fault.ProveFault.{ProveFault}
use Rattle.prolly_range.specs.declared.prove_fault.ProveFault.TheVariants as proves
use Rattle.prolly_root.specs.declared.proof.fault.ProofFault.TheVariants.{Truncated}
use Rattle.prolly_fault.specs.declared.fault.Fault.{Fault}
use Rattle.prolly_fault.specs.declared.fault.Fault.TheVariants.{Memory, Proof, Read, Root, Write}

-- The fault of the command that one of a proof is. (No command goes on behind a fault, and so none
-- tells that an earlier call failed; it would be a proof of which the rest is missing.)
abbrev pub told_set : SetFault → Fault
told_set sets.Memory = Memory
told_set sets.Read = Read
told_set (sets.Proof fault) = Proof fault
told_set sets.Stopped = Proof Truncated

-- The fault of the command that one of writing a proof is.
abbrev pub told_prove : ProveFault → Fault
told_prove (proves.Chunks fault) = Root fault
told_prove proves.Write = Write
