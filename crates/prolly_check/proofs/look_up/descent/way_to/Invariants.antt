use Rattle.std.proofs.Common.{map}
use Rattle.prolly_look_up.specs.Content.{nth_chunk}
use Rattle.prolly_look_up.specs.Sought.{sought_of}
use Rattle.prolly_look_up.specs.Sought.Sought.{Key}
use Rattle.prolly_look_up.specs.Way.{level_of}
use Rattle.prolly_check.proofs.FileDescents.{OnWay}
use Rattle.prolly_check.proofs.look_up.descent.way_to.Given as goal

abbrev pub invariant-loop-chunks : goal.invariant-loop-chunks
invariant-loop-chunks l = OnWay l.file (Key l.key) (map (λ chunk. chunk.now) l.chunks.items)
    l.at.number (sought_of l.at.sought)

abbrev pub decreases-loop-chunks : goal.decreases-loop-chunks
decreases-loop-chunks l = level_of (nth_chunk l.file l.at.number)
