use Rattle.std.proofs.Common.{◌≤◌, ◌-◌, Ok}
use Rattle.prolly_root.specs.ChunkFile.{ChunkFile}
use Rattle.prolly_root.specs.Subtree.{HasChunksOf, KeepsLastChild}
use Rattle.prolly_root.specs.Walk.{HasRead, IsBehind, IsWalk}
use Rattle.prolly_root.proofs.file.subtree.Subtree.child.Given as goal

abbrev pub invariant-loop-count : goal.invariant-loop-count
invariant-loop-count g l = record {
  near : l.count ≤ l.number;
  read : HasRead (g.D.Device.seen l.initial.device) (g.D.Device.seen l.device) (Ok (tt {0}));
  reached : (file : ChunkFile) →
      HasChunksOf (g.D.Device.seen l.initial.device) l.marks file →
      KeepsLastChild file l.level l.initial.self.top.below l.initial.self.last →
      IsWalk file l.initial.self.top.below →
      IsWalk file l.walk ×
      IsBehind file l.level l.initial.self.top.below.number l.count l.walk.number;
}

abbrev pub decreases-loop-count : goal.decreases-loop-count
decreases-loop-count g l = l.number - l.count
