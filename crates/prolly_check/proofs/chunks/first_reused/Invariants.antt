use Rattle.std.proofs.Common.{ℕ, List}
use Rattle.prolly_check.specs.Chunks.{AreReferences}
use Rattle.prolly_check.proofs.IndexSteps.{Passed}
use Rattle.prolly_check.proofs.chunks.first_reused.Given as goal

abbrev pub invariant-loop-number : goal.invariant-loop-number
invariant-loop-number l = (chunks : List (List ℕ)) → AreReferences chunks l.references →
    Passed chunks l.references l.number
