-- The bytes so far are those of the pieces in front of the rest.
use Rattle.std.specs.Prelude.{length}
use Rattle.prolly_text.specs.Pieces.{BeginsWithAll}
use Rattle.prolly_text.proofs.notation.unescape.unescaped.Given as goal

abbrev pub invariant-loop-rest : goal.invariant-loop-rest
invariant-loop-rest l = BeginsWithAll l.fn.text l.bytes.items l.rest

abbrev pub decreases-loop-rest : goal.decreases-loop-rest
decreases-loop-rest l = length l.rest
