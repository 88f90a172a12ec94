-- Characters and escapes stand in front of the rest.
use Rattle.std.specs.Prelude.{length}
use Rattle.prolly_text.proofs.DefectLemmas.{HasPassed}
use Rattle.prolly_text.proofs.lines.defect.escape_defect.Given as goal

abbrev pub invariant-loop-rest : goal.invariant-loop-rest
invariant-loop-rest l = HasPassed l.text l.rest

abbrev pub decreases-loop-rest : goal.decreases-loop-rest
decreases-loop-rest l = length l.rest
