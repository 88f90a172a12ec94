use Rattle.std.proofs.Common.{◌≡◌, ◌+◌}
use Rattle.prolly_root.specs.ChunkFile.{ChunkFile}
use Rattle.prolly_root.specs.Marks.{AreRuns}
use Rattle.prolly_root.specs.Walk.{IsFrame}
use Rattle.prolly_root.proofs.Marking.{Begun}
use Rattle.prolly_root.proofs.file.marks.Marks.count.Given as goal

abbrev pub invariant-loop-lower : goal.invariant-loop-lower
invariant-loop-lower l = record {
  marks : l.self.marks ≡ l.initial.self.marks;
  begun : (file : ChunkFile) → IsFrame file l.fn.frame → l.next ≡ l.fn.frame.number + 1 →
      AreRuns file l.fn.frame.number l.initial.self.runs →
      Begun file l.fn.frame.number l.lower l.self.runs;
}
