-- Going over the frames of a chunk file on a device.
use Rattle.std.specs.Prelude.{◌≡◌, ℕ, zero, suc, ◌+◌, ◌^◌, ◌<◌, ◌≤◌, ◌⊎◌, true, List, [], ◌∷◌, ◌++◌}
use Rattle.std.specs.Prelude.{length, take, Option, Some, None, Result, Ok, Err}
use Rattle.std.specs.List.{flat_map}
use Rattle.prolly_look_up.specs.Content.{Content, IsFileOf}
use Rattle.prolly_look_up.specs.Way.{level_of}
use Rattle.prolly_entry.specs.declared.version.Version.{Version}
use Rattle.prolly_io.specs.Device.{DeviceView}
use Rattle.prolly_io.specs.Frame.{frame_start, framed}
use Rattle.prolly_io.specs.declared.format.frame.FrameStart.{FrameStart}
use Rattle.prolly_io.specs.declared.format.frame.FrameStart.TheVariants.{Chunk, End}
use Rattle.prolly_root.specs.ChunkFile.{ChunkFile, nth_in, end_fault, fault_at_end}
use Rattle.prolly_root.specs.ChunkFile.{fault_behind, header_or_version_fault}
use Rattle.prolly_root.specs.RootFault.{OnlyRead, TellsReads}
use Rattle.prolly_root.specs.declared.root_fault.RootFault.{RootFault}
use Rattle.prolly_root.specs.declared.file.walk.Frame.{Frame}
use Rattle.prolly_root.specs.declared.file.walk.Walk.{Walk}

-- ---- the device

-- An honest device has the bytes of the file of this content, fewer than 2 ^ 64.
pub record HoldsFile (device : DeviceView) (content : Content) : Type 0 where
  pub honest : device.is_honest ≡ true
  pub short : length device.bytes < 2 ^ 64
  pub is : IsFileOf device.bytes content

-- A device that was honest still is, and its bytes are the same.
abbrev pub StaysSame : DeviceView → DeviceView → Type 0
StaysSame old new = old.is_honest ≡ true → (new.is_honest ≡ true) × (new.bytes ≡ old.bytes)

-- A call read of the device and did no more, and it tells a failed read.
abbrev pub HasRead : {T : Type 0} → DeviceView → DeviceView → Result T RootFault → Type 0
HasRead old new result = StaysSame old new × TellsReads old.failures new.failures result

-- ---- what is read of a frame

-- What the bytes begin with behind so many chunks, where they begin with no frame of a chunk that
-- has a byte: what an end record or a frame begins with; or they show what is wrong.
abbrev pub StartsAs : ℕ → List ℕ → Result FrameStart RootFault → Type 0
StartsAs number bytes (Ok End) = (more : List ℕ) × (bytes ≡ 0x45 ∷ more)
StartsAs number bytes (Ok (Chunk len level)) = (more : List ℕ) × (len < 2 ^ 64) ×
    (bytes ≡ frame_start len ++ level ∷ more)
StartsAs number bytes (Err fault) = OnlyRead fault ⊎ (end_fault number bytes ≡ Some fault)

-- The first part of the file behind so many chunks, where these are left: the length and the level
-- of the next one; or what the rest begins with.
abbrev pub IsStartOf : ℕ → List (List ℕ) → List ℕ → Result FrameStart RootFault → Type 0
IsStartOf number [] rest result = StartsAs number rest result
IsStartOf number (chunk ∷ left) rest (Err fault) = OnlyRead fault
IsStartOf number (chunk ∷ left) rest (Ok End) = ⊥
IsStartOf number (chunk ∷ left) rest (Ok (Chunk len level)) =
    (len ≡ length chunk) × (level ≡ level_of chunk)

-- ---- the frames

-- Where the frame of the chunk of this number begins.
abbrev pub offset_of : ChunkFile → ℕ → ℕ
offset_of file number = 6 + length (flat_map framed (take number file.chunks))

-- The walk stands before the chunk of its number, or behind the last one.
pub record IsWalk (file : ChunkFile) (walk : Walk) : Type 0 where
  pub within : walk.number ≤ length file.chunks
  pub offset : walk.offset ≡ offset_of file walk.number
  pub whole : walk.size ≡ length file.bytes
  pub header : 6 ≤ length file.bytes

-- The walk stands before the first frame, as the header tells; or it tells what is wrong with the
-- header or the version.
abbrev pub BeginsWalk : Version → ChunkFile → Result Walk RootFault → Type 0
BeginsWalk version file (Ok walk) =
    (header_or_version_fault version file ≡ None) × (walk.number ≡ 0) × IsWalk file walk
BeginsWalk version file (Err fault) =
    OnlyRead fault ⊎ (header_or_version_fault version file ≡ Some fault)

-- The frame is that of the chunk of its number.
pub record IsFrame (file : ChunkFile) (frame : Frame) : Type 0 where
  pub within : frame.number < length file.chunks
  pub start : frame.start ≡ offset_of file frame.number + 9
  pub len : frame.len ≡ length (nth_in file frame.number)
  pub level : frame.level ≡ level_of (nth_in file frame.number)

-- The walk went over the frame of the chunk of this number; or it stood behind the last one, and
-- tells the end or what is wrong with it.
abbrev pub GoesOver : ChunkFile → ℕ → Walk → Result (Option Frame) RootFault → Type 0
GoesOver file number walk (Err fault) =
    OnlyRead fault ⊎ ((number ≡ length file.chunks) × (fault_at_end file ≡ Some fault))
GoesOver file number walk (Ok None) = (number ≡ length file.chunks) × (fault_at_end file ≡ None)
GoesOver file number walk (Ok (Some frame)) = IsFrame file frame ×
    (frame.number ≡ number) × IsWalk file walk × (walk.number ≡ number + 1)

-- ---- the chunks of a level

-- From the one number up to, and without, the other no chunk is of the level.
abbrev pub NoneBetween : ChunkFile → ℕ → ℕ → ℕ → Type 0
NoneBetween file level from to = (n : ℕ) → from ≤ n → n < to →
    level_of (nth_in file n) ≡ level → ⊥

-- The chunk of this number is the first of the level from the one number on.
pub record IsFirstOfLevel (file : ChunkFile) (level from n : ℕ) : Type 0 where
  pub from_on : from ≤ n
  pub within : n < length file.chunks
  pub is : level_of (nth_in file n) ≡ level
  pub none : NoneBetween file level from n

-- It is the one with k of the level before it, from the one number on.
abbrev pub IsNth : ChunkFile → ℕ → ℕ → ℕ → ℕ → Type 0
IsNth file level from zero n = IsFirstOfLevel file level from n
IsNth file level from (suc k) n = (m : ℕ) × IsNth file level from k m ×
    IsFirstOfLevel file level (suc m) n

-- The number is the one behind k chunks of the level from the one number on, of which the last is
-- right before it.
abbrev pub IsBehind : ChunkFile → ℕ → ℕ → ℕ → ℕ → Type 0
IsBehind file level from zero n = n ≡ from
IsBehind file level from (suc k) n = (m : ℕ) × IsNth file level from k m × (n ≡ suc m)

-- The walk went over the frame of the first chunk of the level from this number on; or there is
-- none, and it tells how the file ends.
abbrev pub GoesToLevel : ChunkFile → ℕ → ℕ → Walk → Result Frame RootFault → Type 0
GoesToLevel file level number walk (Ok frame) = IsFrame file frame ×
    IsFirstOfLevel file level number frame.number × IsWalk file walk ×
    (walk.number ≡ suc frame.number)
GoesToLevel file level number walk (Err fault) = OnlyRead fault ⊎
    (NoneBetween file level number (length file.chunks) × (fault ≡ fault_behind file))
