-- A chunk file of any bytes: the frames that stand in it one behind another, and what is wrong with
-- it before a chunk is read. (This project's format.)
use Rattle.std.specs.Int.{w64, from_be_bytes}
use Rattle.std.specs.List.{AllByRecursion, flat_map}
use Rattle.std.specs.Prelude.{◌≡◌, All, ℕ, ◌^◌, ◌<◌, ◌&&◌, ◌==◌, not, nat_lt, true, List, [], ◌∷◌, ◌++◌}
use Rattle.std.specs.Prelude.{drop, get_or, length, take, slice_index, option_map, unwrap_or, Option}
use Rattle.std.specs.Prelude.{Some, None, if◌then◌else◌}
use Rattle.prolly_look_up.specs.Content.{chunks_of, Content, IsFileOf}
use Rattle.prolly_entry.specs.Byte.{IsByte}
use Rattle.prolly_entry.specs.Cut.{sha512_cut}
use Rattle.prolly_entry.specs.Overlay.{or_else}
use Rattle.prolly_entry.specs.declared.version.Version.{Version}
use Rattle.prolly_entry.specs.declared.version.Version.TheVariants.{One, Two}
use Rattle.prolly_io.specs.Device.{DeviceView}
use Rattle.prolly_io.specs.Frame.{framed, IsSmall}
use Rattle.prolly_io.specs.Header.{header_fault, header_tests}
use Rattle.prolly_io.specs.declared.format.header.HeaderFault.{HeaderFault}
use Rattle.prolly_io.specs.declared.format.header.HeaderFault.TheVariants as header_faults
use Rattle.prolly_root.specs.declared.root_fault.RootFault.{RootFault}
use Rattle.prolly_root.specs.declared.root_fault.RootFault.TheVariants as roots
use Rattle.prolly_tree.specs.Chunk.{chunks}
use Rattle.prolly_tree.specs.File.{end_record, file, root_reference}

-- ---- the frames

-- The bytes of a file; the chunks of the frames that stand one behind another behind its header; and
-- the bytes behind the last frame.
pub record ChunkFile : Type 0 where
  pub bytes : List ℕ
  pub chunks : List (List ℕ)
  pub rest : List ℕ

-- The chunk has a byte.
abbrev pub IsSome : List ℕ → Type 0
IsSome chunk = 0 < length chunk

-- No frame of a chunk that has a byte begins these.
abbrev pub BeginsNoFrame : List ℕ → Type 0
BeginsNoFrame bytes = (chunk more : List ℕ) → IsSome chunk → IsSmall chunk →
    bytes ≡ framed chunk ++ more → ⊥

-- These are all frames that stand there. Any bytes, fewer than 2 ^ 64, are cut in this way.
pub record IsCut (file : ChunkFile) : Type 0 where
  pub is : drop 6 file.bytes ≡ flat_map framed file.chunks ++ file.rest
  pub some : AllByRecursion IsSome file.chunks
  pub last : BeginsNoFrame file.rest
  pub short : length file.bytes < 2 ^ 64

-- An honest device has the bytes of the file.
pub record HoldsChunks (device : DeviceView) (file : ChunkFile) : Type 0 where
  pub honest : device.is_honest ≡ true
  pub are : device.bytes ≡ file.bytes
  pub cut : IsCut file

-- The chunk of this number, counted from 0.
abbrev pub nth_in : ChunkFile → ℕ → List ℕ
nth_in file number = get_or file.chunks number []

-- The file of this content.
abbrev pub chunk_file : Content → ChunkFile
chunk_file content = record {
  bytes = file (sha512_cut content.bits) content.version content.pairs;
  chunks = chunks_of content;
  rest = end_record (root_reference (sha512_cut content.bits) content.version content.pairs)
      (length (chunks (sha512_cut content.bits) content.version content.pairs));
}

-- The content is lawful: it has at most 24 bits, its pairs are lawful and rise, and no two chunks
-- of its tree have one reference.
abbrev pub IsLawful : Content → Type 0
IsLawful content = IsFileOf (chunk_file content).bytes content

-- ---- what is wrong before a chunk is read

-- A header that is cut off, or that of something else.
abbrev pub fault_of_header : HeaderFault → RootFault
fault_of_header header_faults.Truncated = roots.Truncated
fault_of_header header_faults.BadByte = roots.Header

-- A header of the other version.
abbrev pub version_fault : Version → List ℕ → Option RootFault
version_fault One bytes = if slice_index bytes 4 == 1 then None else Some roots.Version
version_fault Two bytes = if slice_index bytes 4 == 1 then Some roots.Version else None

-- Behind the letter of a frame: its chunk, of this number, has no byte, which is told once a byte
-- follows; or else the frame is cut off.
abbrev pub frame_fault : ℕ → List ℕ → RootFault
frame_fault number bytes =
    if nat_lt 8 (length bytes) && (from_be_bytes w64 (take 8 bytes) == 0) then roots.Chunk number
    else roots.Truncated

-- Behind the frames of so many chunks: the bytes end, or another frame is at fault, or another
-- letter stands there, or the end record does not end where the file does.
abbrev pub end_fault : ℕ → List ℕ → Option RootFault
end_fault number [] = Some roots.Truncated
end_fault number (letter ∷ bytes) =
    if letter == 0x43 then Some (frame_fault number bytes)
    else (if not (letter == 0x45) then Some (roots.Frame number)
    else (if nat_lt (length bytes) 28 then Some roots.Truncated
    else (if nat_lt 28 (length bytes) then Some roots.Trailing else None)))

-- What is wrong behind the last frame.
abbrev pub fault_at_end : ChunkFile → Option RootFault
fault_at_end file = end_fault (length file.chunks) file.rest

-- That there is no chunk.
abbrev pub no_chunk_fault : List (List ℕ) → Option RootFault
no_chunk_fault [] = Some roots.Missing
no_chunk_fault (chunk ∷ chunks) = None

-- Why the root of a file is not found.
abbrev pub frames_fault : ChunkFile → Option RootFault
frames_fault file = or_else (fault_at_end file) (no_chunk_fault file.chunks)

-- What is wrong with the header of a file where chunks of this version are due.
abbrev pub header_or_version_fault : Version → ChunkFile → Option RootFault
header_or_version_fault version file =
    or_else (option_map fault_of_header (header_fault header_tests file.bytes))
    (version_fault version file.bytes)

-- What is wrong first with such a file: with its header, its end, or that it has no chunk.
abbrev pub file_fault : Version → ChunkFile → Option RootFault
file_fault version file = or_else (header_or_version_fault version file) (frames_fault file)

-- What is told where a chunk is looked for behind the last one.
abbrev pub fault_behind : ChunkFile → RootFault
fault_behind file = unwrap_or (fault_at_end file) roots.Missing

-- ---- that any bytes are cut into frames

-- Law: any bytes, fewer than 2 ^ 64, are those of a file that is cut into its frames, and of one only.
pub record FilesAreCut : Type 0 where
  pub some : (bytes : List ℕ) → All IsByte bytes → length bytes < 2 ^ 64 →
      (file : ChunkFile) × (file.bytes ≡ bytes) × IsCut file
  pub one : (file other : ChunkFile) → IsCut file → IsCut other → file.bytes ≡ other.bytes →
      file ≡ other
