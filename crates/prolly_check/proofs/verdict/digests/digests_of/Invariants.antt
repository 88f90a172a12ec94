use Rattle.std.proofs.Common.{take}
use Rattle.prolly_check.specs.Digests.{AreDigests}
use Rattle.prolly_check.specs.Frames.{chunks_in}
use Rattle.prolly_check.proofs.verdict.digests.digests_of.Given as goal

abbrev pub invariant-loop-number : goal.invariant-loop-number
invariant-loop-number l =
    AreDigests l.version l.cut (take l.number (chunks_in l.bytes l.spans)) l.digests.items
