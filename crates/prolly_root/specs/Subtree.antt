-- Where chunks stand in a chunk file on a device, and those below them.
use Rattle.std.specs.Prelude.{◌≡◌, ℕ, suc, ◌-◌, Option, None, Some}
use Rattle.std.specs.Prelude.{◌⊎◌, IfSome, Result, Ok, Err}
use Rattle.prolly_look_up.specs.Way.{level_of}
use Rattle.prolly_io.specs.Device.{DeviceView}
use Rattle.prolly_root.specs.ChunkFile.{ChunkFile, HoldsChunks, nth_in, fault_behind}
use Rattle.prolly_root.specs.Marks.{AreMarks}
use Rattle.prolly_root.specs.RootFault.{OnlyRead}
use Rattle.prolly_root.specs.Walk.{IsBehind, IsFrame, IsNth, IsWalk}
use Rattle.prolly_root.specs.declared.file.subtree.LastChild.{LastChild}
use Rattle.prolly_root.specs.declared.file.marks.Marks.{Marks}
use Rattle.prolly_root.specs.declared.file.subtree.Place.{Place}
use Rattle.prolly_root.specs.declared.file.subtree.Subtree.{Subtree}
use Rattle.prolly_root.specs.declared.file.walk.Walk.{Walk}
use Rattle.prolly_root.specs.declared.root_fault.RootFault.{RootFault}

-- The place is that of the chunk with k of the level before it from this number on, and of where
-- the frames begin behind those.
pub record IsPlaceNth (file : ChunkFile) (level from k : ℕ) (place : Place) : Type 0 where
  pub frame : IsFrame file place.frame
  pub nth : IsNth file level from k place.frame.number
  pub below : IsWalk file place.below
  pub behind : IsBehind file level from k place.below.number

-- There is no such chunk.
abbrev pub HasNoNth : ChunkFile → ℕ → ℕ → ℕ → Type 0
HasNoNth file level from k = (n : ℕ) → IsNth file level from k n → ⊥

-- The place is that one; or there is no such chunk, and it is told how the file ends.
abbrev pub FindsNth : ChunkFile → ℕ → ℕ → ℕ → Result Place RootFault → Type 0
FindsNth file level from k (Ok place) = IsPlaceNth file level from k place
FindsNth file level from k (Err fault) =
    OnlyRead fault ⊎ ((fault ≡ fault_behind file) × HasNoNth file level from k)

-- What is kept of the child that was gone to last is so, where the first walk stands in the file.
abbrev pub KeepsLastChild : ChunkFile → ℕ → Walk → Option LastChild → Type 0
KeepsLastChild file level first None = Unit {0}
KeepsLastChild file level first (Some passed) = IsWalk file first →
    IsPlaceNth file level first.number passed.number passed.place ×
    IsWalk file passed.rest ×
    IsBehind file level first.number (suc passed.number) passed.rest.number

-- The chunk of this number stands there, the frames below it begin at this one, and what was found
-- below it is so.
pub record StandsThere (file : ChunkFile) (subtree : Subtree) (number from : ℕ) : Type 0 where
  pub frame : IsFrame file subtree.top.frame
  pub number_is : subtree.top.frame.number ≡ number
  pub below : IsWalk file subtree.top.below
  pub from_is : subtree.top.below.number ≡ from
  pub last : KeepsLastChild file (level_of (nth_in file number) - 1) subtree.top.below subtree.last

-- The two places are those of one chunk, and the frames below it begin with one.
abbrev pub AreOnePlace : Subtree → Subtree → Type 0
AreOnePlace place other = (place.top.frame.number ≡ other.top.frame.number) ×
    (place.top.below.number ≡ other.top.below.number)

-- An honest device has the file, and the places that are remembered are of it.
abbrev pub HasChunksOf : DeviceView → Option Marks → ChunkFile → Type 0
HasChunksOf device marks file = HoldsChunks device file × IfSome marks (AreMarks file)
