-- Bytes that are one frame and no more.
use Rattle.std.proofs.Common.{◌≡◌, ℕ, ◌≤◌, ◌+◌, List, length, take, drop, arith}
use Rattle.std.proofs.lemmas.Grind.{common_steps}
use Rattle.std.specs.Int.{w64, from_be_bytes}
use Rattle.prolly_io.specs.Frame.{BeginsFrame}
use Rattle.prolly_range.specs.Frames.{IsFrameOf}

-- They begin with it, and its own first nine tell that there are no more.
pub one_frame : (start bytes : List ℕ) (len : ℕ) → take 9 bytes ≡ start → 9 ≤ length bytes →
    length bytes ≤ 9 + from_be_bytes w64 (take 8 (drop 1 start)) → BeginsFrame bytes len →
    IsFrameOf (drop 9 bytes) bytes
one_frame start bytes len front some few begins = grind (arith, common_steps)
