use Rattle.std.proofs.Common.{length}
use Rattle.prolly_text.proofs.PackSteps.{IsUnderWay}
use Rattle.prolly_text.proofs.lines.pack.pack_lines_in.Given as goal

abbrev pub invariant-loop-rest : goal.invariant-loop-rest
invariant-loop-rest l = IsUnderWay l.form l.text l.initial.out.items l.out.items l.rest l.count

abbrev pub decreases-loop-rest : goal.decreases-loop-rest
decreases-loop-rest l = length l.rest
