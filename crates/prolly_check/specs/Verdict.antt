-- Which bytes are accepted, and which fault others have.
use Rattle.std.specs.Prelude.{◌≡◌, ◌⊎◌, ℕ, ◌<◌, ◌≤◌, ◌^◌, slice_index, List, length, drop}
use Rattle.std.specs.Prelude.{Option, Some, None, Result, Ok, Err}
use Rattle.prolly_entry.specs.Pair.{Pair}
use Rattle.prolly_entry.specs.declared.version.Version.{Version}
use Rattle.prolly_io.specs.Header.{header_tests, header_fault, version_of}
use Rattle.prolly_io.specs.declared.format.header.HeaderFault.{HeaderFault}
use Rattle.prolly_io.specs.declared.device.part_reader.ReadFault.{ReadFault}
use Rattle.prolly_io.specs.declared.device.whole.WholeFault.{WholeFault}
use Rattle.prolly_look_up.specs.Content.{Content, IsFileOf}
use Rattle.prolly_check.specs.ReadChunks.{IsRead}
use Rattle.prolly_check.specs.Frames.{IsFramed}
use Rattle.prolly_check.specs.FirstFault.{judged}
use Rattle.prolly_check.specs.declared.verdict.fault.CheckFault.{CheckFault}
use Rattle.prolly_check.specs.declared.verdict.fault.CheckFault.TheVariants.{Memory, Read, TooLong}
use Rattle.prolly_check.specs.declared.verdict.fault.CheckFault.TheVariants.{BadHeader, Truncated}
use Rattle.prolly_io.specs.declared.format.header.HeaderFault.TheVariants as header
use Rattle.prolly_io.specs.declared.device.part_reader.ReadFault.TheVariants as part
use Rattle.prolly_io.specs.declared.device.whole.WholeFault.TheVariants as whole

-- The fault is want of memory, or it is such a one.
abbrev pub UnlessMemory : (CheckFault → Type 0) → CheckFault → Type 0
UnlessMemory P fault = (fault ≡ Memory) ⊎ P fault

-- The fault of reading the bytes, as one of checking.
abbrev pub read_fault : WholeFault → CheckFault
read_fault whole.Memory = Memory
read_fault whole.Read = Read
read_fault whole.TooLong = TooLong

-- The fault of reading some of them, as one of checking.
abbrev pub fault_of_read : ReadFault → CheckFault
fault_of_read part.Memory = Memory
fault_of_read part.Read = Read

-- The fault of a header, as one of checking.
abbrev pub fault_of_header : HeaderFault → CheckFault
fault_of_header header.Truncated = Truncated
fault_of_header header.BadByte = BadHeader

-- ---- The faults, step by step.

-- Chunks that can't be read have that fault; else the file is judged.
abbrev pub ReadVerdict : Version → ℕ → List (List ℕ) → List ℕ →
    Result (List (List Pair)) CheckFault → Result Content CheckFault → Type 0
ReadVerdict version bits chunks ending (Ok lists) verdict =
    verdict ≡ judged version bits chunks ending lists
ReadVerdict version bits chunks ending (Err fault) verdict = verdict ≡ Err fault

-- The verdict on the chunks of a file with an end record.
pub record ChunksVerdict (version : Version) (bits : ℕ) (chunks : List (List ℕ)) (ending : List ℕ)
    (verdict : Result Content CheckFault) : Type 0 where
  pub read : Result (List (List Pair)) CheckFault
  pub is : IsRead version chunks read
  pub so : ReadVerdict version bits chunks ending read verdict

-- Where no end record follows the frames, that is the fault; else the chunks are read.
abbrev pub EndVerdict : Version → ℕ → List (List ℕ) → Result (List ℕ) CheckFault →
    Result Content CheckFault → Type 0
EndVerdict version bits chunks (Ok ending) verdict =
    ChunksVerdict version bits chunks ending verdict
EndVerdict version bits chunks (Err fault) verdict = verdict ≡ Err fault

-- The verdict on the bytes behind a lawful header.
pub record FramesVerdict (version : Version) (bits : ℕ) (bytes : List ℕ)
    (verdict : Result Content CheckFault) : Type 0 where
  pub chunks : List (List ℕ)
  pub ending : Result (List ℕ) CheckFault
  pub is : IsFramed bytes chunks ending
  pub so : EndVerdict version bits chunks ending verdict

-- Bytes with a faulty header have that fault; else the bytes behind the header are judged.
abbrev pub HeaderVerdict : Option HeaderFault → List ℕ → Result Content CheckFault → Type 0
HeaderVerdict (Some fault) bytes verdict = verdict ≡ Err (fault_of_header fault)
HeaderVerdict None bytes verdict =
    FramesVerdict (version_of (slice_index bytes 4)) (slice_index bytes 5) (drop 6 bytes) verdict

-- The verdict on bytes: the first fault in the order header, frames and end record, chunks from the
-- left, keys, chunks and end record of the pairs' file, references; or else what the file says.
abbrev pub IsVerdict : List ℕ → Result Content CheckFault → Type 0
IsVerdict bytes verdict = HeaderVerdict (header_fault header_tests bytes) bytes verdict

-- ---- Their meaning.

-- Law: bytes have one verdict.
abbrev pub OneVerdict : Type 0
OneVerdict = (bytes : List ℕ) (verdict other : Result Content CheckFault) →
    IsVerdict bytes verdict → IsVerdict bytes other → verdict ≡ other

-- Law: what is accepted is the file of a map, and such a file of fewer than 2^64 bytes is accepted,
-- each as the file of that map.
abbrev pub AcceptsFiles : Type 0
AcceptsFiles = (bytes : List ℕ) (content : Content) →
    (IsVerdict bytes (Ok content) → IsFileOf bytes content)
    × (length bytes < 2 ^ 64 → IsFileOf bytes content → IsVerdict bytes (Ok content))

-- There are more bytes than are allowed, or there are not and the fault is the verdict on them;
-- want of memory and failed reads may come over any.
abbrev pub IsRefusal : List ℕ → ℕ → CheckFault → Type 0
IsRefusal bytes max_bytes Memory = Unit {0}
IsRefusal bytes max_bytes Read = Unit {0}
IsRefusal bytes max_bytes TooLong = max_bytes < length bytes
IsRefusal bytes max_bytes fault = (length bytes ≤ max_bytes) × IsVerdict bytes (Err fault)
