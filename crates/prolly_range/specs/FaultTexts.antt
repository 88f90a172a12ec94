-- What is said of a proof that shows nothing more, or was not written, and of keys that do not rise.
-- (This project's texts.)
use Rattle.std.specs.Prelude.{ℕ, List, codes}
use Rattle.prolly_root.specs.FaultTexts.{proof_fault_text, root_fault_text}
use Rattle.prolly_range.specs.declared.fault.SetFault.{SetFault}
use Rattle.prolly_range.specs.declared.fault.SetFault.TheVariants.{Memory, Proof, Read, Stopped}
use Rattle.prolly_range.specs.declared.prove_fault.ProveFault.{ProveFault}
use Rattle.prolly_range.specs.declared.prove_fault.ProveFault.TheVariants.{Chunks, Write}

-- What is said of a proof that shows nothing more.
abbrev pub set_fault_text : SetFault → List ℕ
set_fault_text Memory = codes "out of memory"
set_fault_text Read = codes "proof: read failed"
set_fault_text (Proof fault) = proof_fault_text fault
set_fault_text Stopped = codes "proof: an earlier call failed"

-- What is said of a proof that was not written.
abbrev pub prove_fault_text : ProveFault → List ℕ
prove_fault_text (Chunks fault) = root_fault_text fault
prove_fault_text Write = codes "write failed"

-- What is said of keys that do not rise.
abbrev pub not_rising_text : List ℕ
not_rising_text = codes "key not greater than the one before it"
