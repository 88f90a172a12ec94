use Rattle.prolly_look_up.specs.Content.{nth_chunk}
use Rattle.prolly_look_up.specs.Sought.{sought_of}
use Rattle.prolly_look_up.specs.Way.{level_of}
use Rattle.prolly_check.proofs.FileDescents.{IsOnWay}
use Rattle.prolly_check.proofs.look_up.descent.descend.Given as goal

abbrev pub invariant-loop-next : goal.invariant-loop-next
invariant-loop-next l = IsOnWay l.file (sought_of l.fn.sought) l.at.number (sought_of l.at.sought)

abbrev pub decreases-loop-next : goal.decreases-loop-next
decreases-loop-next l = level_of (nth_chunk l.file l.at.number)
