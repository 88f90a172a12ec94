use Rattle.std.proofs.Common.{◌-◌, length}
use Rattle.prolly_check.specs.Frames.{FramesTo}
use Rattle.prolly_check.proofs.verdict.frames.find_frames.Given as goal

abbrev pub invariant-loop-len : goal.invariant-loop-len
invariant-loop-len l = FramesTo l.bytes l.from l.spans.items l.end

abbrev pub decreases-loop-len : goal.decreases-loop-len
decreases-loop-len l = length l.bytes - l.end
