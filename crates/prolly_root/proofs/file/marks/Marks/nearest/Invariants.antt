use Rattle.std.proofs.Common.{◌≤◌}
use Rattle.prolly_root.specs.ChunkFile.{ChunkFile}
use Rattle.prolly_root.specs.Marks.{AreMarks}
use Rattle.prolly_root.specs.Walk.{IsBehind, IsWalk}
use Rattle.prolly_root.proofs.file.marks.Marks.nearest.Given as goal

abbrev pub invariant-loop-mark : goal.invariant-loop-mark
invariant-loop-mark l = record {
  near : l.nearest.count ≤ l.number;
  reached : (file : ChunkFile) → AreMarks file l.self →
      IsWalk file l.first → IsWalk file l.nearest.walk ×
      IsBehind file l.level l.first.number l.nearest.count l.nearest.walk.number;
}
