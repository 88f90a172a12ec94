-- What is said of a file that is no chunk file. (This project's texts.)
use Rattle.std.specs.Prelude.{ℕ, List, ◌++◌, codes}
use Rattle.std.specs.Fmt.{decimal}
use Rattle.prolly_check.specs.declared.stream.fault.StreamFault.{StreamFault}
use Rattle.prolly_check.specs.declared.stream.fault.StreamFault.TheVariants as stream
use Rattle.prolly_check.specs.declared.verdict.fault.CheckFault.{CheckFault}
use Rattle.prolly_check.specs.declared.verdict.fault.CheckFault.TheVariants as checks

-- What is said of a file that was not accepted as a chunk file.
abbrev pub check_fault_text : CheckFault → List ℕ
check_fault_text checks.Memory = codes "out of memory"
check_fault_text checks.Read = codes "chunk file: read failed"
check_fault_text checks.TooLong = codes "chunk file: too long"
check_fault_text checks.BadHeader = codes "chunk file: bad header"
check_fault_text (checks.BadFrame chunk) = codes "chunk file: bad frame " ++ decimal chunk
check_fault_text checks.Truncated = codes "chunk file: truncated"
check_fault_text checks.Trailing = codes "chunk file: bytes after the end"
check_fault_text (checks.BadChunk chunk) = codes "chunk file: bad chunk " ++ decimal chunk
check_fault_text (checks.KeysOutOfOrder chunk) = codes "chunk file: keys out of order in chunk " ++
    decimal chunk
check_fault_text (checks.NotCanonical chunk) = codes "chunk file: chunk " ++ decimal chunk ++
    codes " is not canonical"
check_fault_text checks.BadEnd = codes "chunk file: bad end record"
check_fault_text (checks.Collision chunk) = codes "chunk file: reference of chunk " ++
    decimal chunk ++ codes " is used twice"

-- What is said of a file that is not that of the tree of a root.
abbrev pub stream_fault_text : StreamFault → List ℕ
stream_fault_text (stream.Check fault) = check_fault_text fault
stream_fault_text stream.Version = codes "chunk file: wrong version"
stream_fault_text stream.OtherRoot = codes "chunk file: has another root"
