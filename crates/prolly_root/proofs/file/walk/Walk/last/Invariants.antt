use Rattle.std.proofs.Common.{◌≡◌, ◌-◌, Ok}
use Rattle.prolly_root.specs.ChunkFile.{ChunkFile, HoldsChunks}
use Rattle.prolly_root.specs.Marks.{AreMarks, AreRuns}
use Rattle.prolly_root.specs.Walk.{HasRead, IsWalk}
use Rattle.prolly_root.proofs.Walking.{CameTo}
use Rattle.prolly_root.proofs.file.walk.Walk.last.Given as goal

abbrev pub invariant-loop-frame : goal.invariant-loop-frame
invariant-loop-frame g l = record {
  read : HasRead (g.D.Device.seen l.initial.device) (g.D.Device.seen l.device) (Ok (tt {0}));
  came : (file : ChunkFile) → HoldsChunks (g.D.Device.seen l.initial.device) file →
      IsWalk file l.initial.self → l.initial.self.number ≡ 0 →
      IsWalk file l.self × CameTo file l.self.number l.last ×
      AreRuns file l.self.number l.marks.runs × AreMarks file l.marks;
}

abbrev pub decreases-loop-frame : goal.decreases-loop-frame
decreases-loop-frame g l = l.self.size - l.self.offset
