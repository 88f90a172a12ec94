use Rattle.std.proofs.Common.{◌≡◌, ◌+◌, take, Ok}
use Rattle.prolly_check.specs.ChunksRead.{GoesOver}
use Rattle.prolly_check.specs.Follower.{IsAlike}
use Rattle.prolly_check.specs.Frames.{chunks_in}
use Rattle.prolly_check.proofs.stream.chunks_read.ChunksRead.take_hashed.Given as goal

abbrev pub invariant-loop-number : goal.invariant-loop-number
invariant-loop-number l = record {
  over : GoesOver l.fn.self l.self (take l.number (chunks_in l.bytes l.spans)) (Ok tt);
  alike : IsAlike l.fn.self.follower l.self.follower;
  count : l.self.count ≡ l.fn.self.count + l.number;
}
