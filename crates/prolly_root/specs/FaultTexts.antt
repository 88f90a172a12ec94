-- What is said of faults. (This project's texts.)
use Rattle.std.specs.Prelude.{ℕ, List, ◌++◌, codes}
use Rattle.std.specs.Fmt.{decimal}
use Rattle.prolly_root.specs.declared.proof.fault.ProofFault.{ProofFault}
use Rattle.prolly_root.specs.declared.proof.fault.ProofFault.TheVariants as proofs
use Rattle.prolly_root.specs.declared.root_fault.RootFault.{RootFault}
use Rattle.prolly_root.specs.declared.root_fault.RootFault.TheVariants as roots

-- Of bytes that are no proof.
abbrev pub proof_fault_text : ProofFault → List ℕ
proof_fault_text proofs.Header = codes "proof: bad header"
proof_fault_text proofs.Version = codes "proof: wrong version"
proof_fault_text proofs.Truncated = codes "proof: truncated"
proof_fault_text (proofs.Frame chunk) = codes "proof: bad frame " ++ decimal chunk
proof_fault_text (proofs.Reference chunk) = codes "proof: chunk " ++ decimal chunk ++
    codes " is not the one referred to"
proof_fault_text (proofs.Chunk chunk) = codes "proof: bad chunk " ++ decimal chunk
proof_fault_text (proofs.KeysOutOfOrder chunk) = codes "proof: keys out of order in chunk " ++
    decimal chunk
proof_fault_text (proofs.Level chunk) = codes "proof: wrong level in chunk " ++ decimal chunk
proof_fault_text proofs.Trailing = codes "proof: bytes after the end"

-- Of a file that has no answer to a look-up by a root.
abbrev pub root_fault_text : RootFault → List ℕ
root_fault_text roots.Memory = codes "out of memory"
root_fault_text roots.Read = codes "chunk file: read failed"
root_fault_text roots.Header = codes "chunk file: bad header"
root_fault_text roots.Version = codes "chunk file: wrong version"
root_fault_text roots.Truncated = codes "chunk file: truncated"
root_fault_text (roots.Frame chunk) = codes "chunk file: bad frame " ++ decimal chunk
root_fault_text roots.Trailing = codes "chunk file: bytes after the end"
root_fault_text roots.Missing = codes "chunk file: chunks are missing"
root_fault_text (roots.Reference chunk) = codes "chunk file: chunk " ++ decimal chunk ++
    codes " is not the one referred to"
root_fault_text (roots.Chunk chunk) = codes "chunk file: bad chunk " ++ decimal chunk
root_fault_text (roots.KeysOutOfOrder chunk) = codes "chunk file: keys out of order in chunk " ++
    decimal chunk
root_fault_text (roots.Level chunk) = codes "chunk file: wrong level in chunk " ++ decimal chunk
