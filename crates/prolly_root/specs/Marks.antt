-- Boundaries that are remembered while the root is sought.
use Rattle.std.specs.Prelude.{◌≡◌, ℕ, ◌-◌, ◌<◌, ◌≤◌, ◌⊎◌, List, length, get_or, Some, None, Result}
use Rattle.std.specs.Prelude.{Ok, Err}
use Rattle.std.specs.List.{AllByRecursion}
use Rattle.prolly_root.specs.ChunkFile.{ChunkFile, frames_fault}
use Rattle.prolly_root.specs.RootFault.{OnlyRead}
use Rattle.prolly_root.specs.Walk.{IsBehind, IsFrame, IsWalk, NoneBetween}
use Rattle.prolly_root.specs.declared.file.marks.Mark.{Mark}
use Rattle.prolly_root.specs.declared.file.marks.Marks.{Marks}
use Rattle.prolly_root.specs.declared.file.marks.Run.{Run}
use Rattle.prolly_root.specs.declared.file.walk.Frame.{Frame}
use Rattle.prolly_root.specs.declared.root_fault.RootFault.{RootFault}

-- The run is of all chunks of the level from its first number on, up to, and without, the next one.
pub record IsRun (file : ChunkFile) (next level : ℕ) (run : Run) : Type 0 where
  pub last : ℕ
  pub behind : IsBehind file level run.from run.count last
  pub within : last ≤ next
  pub none : NoneBetween file level last next

-- There is one for each level below 32.
pub record AreRuns (file : ChunkFile) (next : ℕ) (runs : List Run) : Type 0 where
  pub long : length runs ≡ 32
  pub each : (level : ℕ) → level < 32 →
      IsRun file next level (get_or runs level (record { from = 0; count = 0 }))

-- The mark stands behind so many chunks of its level from its first number on, of which the last is
-- right before it.
pub record IsPlaceMark (file : ChunkFile) (mark : Mark) : Type 0 where
  pub walk : IsWalk file mark.reached.walk
  pub behind : IsBehind file mark.level mark.from mark.reached.count mark.reached.walk.number

-- There are 32 marks, and each stands where it should.
pub record AreMarks (file : ChunkFile) (marks : Marks) : Type 0 where
  pub long : length marks.marks ≡ 32
  pub each : AllByRecursion (IsPlaceMark file) marks.marks

-- The frame is that of the last chunk, and the marks are of the file; or its end is at fault, or it
-- has no chunk.
abbrev pub FindsLast : ChunkFile → Result (Frame × Marks) RootFault → Type 0
FindsLast file (Ok last) = (frames_fault file ≡ None) × IsFrame file last.0 ×
    (last.0.number ≡ length file.chunks - 1) × AreMarks file last.1
FindsLast file (Err fault) = OnlyRead fault ⊎ (frames_fault file ≡ Some fault)
