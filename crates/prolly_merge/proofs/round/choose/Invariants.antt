use Rattle.std.proofs.Common.{take}
use Rattle.prolly_merge.specs.Choice.{IsLeast}
use Rattle.prolly_merge.proofs.round.choose.Given as goal

abbrev pub invariant-loop-i : goal.invariant-loop-i
invariant-loop-i l = IsLeast (take l.i l.heads) l.least
