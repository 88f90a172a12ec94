use Rattle.std.proofs.Common.{◌≤◌, ◌-◌, Ok}
use Rattle.prolly_root.specs.ChunkFile.{ChunkFile, HoldsChunks}
use Rattle.prolly_root.specs.Walk.{HasRead, IsWalk, NoneBetween}
use Rattle.prolly_root.proofs.file.walk.Walk.next_of_level.Given as goal

abbrev pub invariant-loop-frame : goal.invariant-loop-frame
invariant-loop-frame g l = record {
  read : HasRead (g.D.Device.seen l.initial.device) (g.D.Device.seen l.device) (Ok (tt {0}));
  came : (file : ChunkFile) → HoldsChunks (g.D.Device.seen l.initial.device) file →
      IsWalk file l.initial.self →
      IsWalk file l.self ×
      (l.initial.self.number ≤ l.self.number) ×
      NoneBetween file l.level l.initial.self.number l.self.number;
}

abbrev pub decreases-loop-frame : goal.decreases-loop-frame
decreases-loop-frame g l = l.self.size - l.self.offset
