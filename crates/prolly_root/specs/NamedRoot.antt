-- What a chunk file says of its tree in its header, and the root that its end record names.
use Rattle.std.specs.Prelude.{◌≡◌, ℕ, ◌-◌, ◌<◌, ◌≤◌, ◌⊎◌, List, drop, length, slice_index, Option}
use Rattle.std.specs.Prelude.{Some, None}
use Rattle.std.specs.Prelude.{Result, Ok, Err}
use Rattle.prolly_look_up.specs.Content.{Content}
use Rattle.prolly_root.specs.declared.file.named_root_fault.NamedRootFault.{NamedRootFault}
use Rattle.prolly_root.specs.declared.file.named_root_fault.NamedRootFault.TheVariants.{BadEnd, BadHeader}
use Rattle.prolly_root.specs.declared.file.named_root_fault.NamedRootFault.TheVariants.{Read, Truncated}
use Rattle.prolly_entry.specs.Cut.{sha512_cut}
use Rattle.prolly_entry.specs.declared.reference.Ref.{Ref}
use Rattle.prolly_io.specs.EndRecord.{IsNoEnd, NamesRoot}
use Rattle.prolly_io.specs.Failures.{after_failure}
use Rattle.prolly_io.specs.Header.{header_fault, header_tests, version_of}
use Rattle.prolly_io.specs.declared.format.header.Header.{Header}
use Rattle.prolly_io.specs.declared.format.header.HeaderFault.TheVariants as header_faults
use Rattle.prolly_root.specs.RootFault.{OnlyRead}
use Rattle.prolly_root.specs.declared.root_fault.RootFault.{RootFault}
use Rattle.prolly_root.specs.declared.root_fault.RootFault.TheVariants as roots
use Rattle.prolly_io.specs.declared.format.header.HeaderFault.{HeaderFault}
use Rattle.prolly_tree.specs.File.{root_reference}

-- ---- the header

-- What a header says is what this content has.
pub record SaysHeaderOf (content : Content) (header : Header) : Type 0 where
  pub version : header.version ≡ content.version
  pub bits : header.bits ≡ content.bits

-- What the first bytes of a file tell: what their header says; or what is wrong with it; or a read
-- failed.
abbrev pub TellsHeader : List ℕ → Result Header RootFault → Type 0
TellsHeader bytes (Ok header) = (header_fault header_tests bytes ≡ None) ×
    (header.version ≡ version_of (slice_index bytes 4)) × (header.bits ≡ slice_index bytes 5)
TellsHeader bytes (Err roots.Truncated) =
    header_fault header_tests bytes ≡ Some header_faults.Truncated
TellsHeader bytes (Err roots.Header) = header_fault header_tests bytes ≡ Some header_faults.BadByte
TellsHeader bytes (Err fault) = OnlyRead fault

-- ---- the root

-- What is wrong with a header.
abbrev pub fault_of_header : HeaderFault → NamedRootFault
fault_of_header header_faults.Truncated = Truncated
fault_of_header header_faults.BadByte = BadHeader

-- The last bytes of a file, as many as an end record has.
abbrev pub last_bytes : List ℕ → List ℕ
last_bytes bytes = drop (length bytes - 29) bytes

-- What the end of a file with a lawful header tells: the root of its end record; or that there is no
-- room for both, or no end record, of whatever root.
abbrev pub TellsRoot : List ℕ → Result Ref NamedRootFault → Type 0
TellsRoot bytes (Ok root) = (35 ≤ length bytes) × NamesRoot root.0 (last_bytes bytes)
TellsRoot bytes (Err Truncated) = length bytes < 35
TellsRoot bytes (Err BadEnd) = (35 ≤ length bytes) × IsNoEnd (last_bytes bytes)
TellsRoot bytes (Err fault) = fault ≡ Read

-- A bad header is told first.
abbrev pub TellsBehind : Option HeaderFault → List ℕ → Result Ref NamedRootFault → Type 0
TellsBehind None bytes result = TellsRoot bytes result
TellsBehind (Some fault) bytes result =
    (result ≡ Err (fault_of_header fault)) ⊎ (result ≡ Err Read)

-- What the header and the end of a file tell; or a read failed.
abbrev pub TellsEnd : List ℕ → Result Ref NamedRootFault → Type 0
TellsEnd bytes result = TellsBehind (header_fault header_tests bytes) bytes result

-- That a read failed is told where one more call failed, and only there.
abbrev pub TellsFailedRead : ℕ → ℕ → Result Ref NamedRootFault → Type 0
TellsFailedRead old new (Err Read) = new ≡ after_failure old
TellsFailedRead old new result = new ≡ old

-- The root is that of this content; or a read failed.
abbrev pub NamesRootOf : Content → Result Ref NamedRootFault → Type 0
NamesRootOf content (Ok root) =
    root.0 ≡ root_reference (sha512_cut content.bits) content.version content.pairs
NamesRootOf content (Err fault) = fault ≡ Read
