-- How far a walk has to go yet: a subtree weighs more than all that is due in its place once its
-- chunk was read.
use Rattle.std.specs.Prelude.{ℕ, zero, suc, ◌+◌, ◌*◌, ◌^◌, ◌<◌, List, [], ◌∷◌, length, Option, IfSome}
use Rattle.prolly_root_diff.specs.Left.{Due, Left}
use Rattle.prolly_root_diff.specs.Walks.{Lefts}

-- What a subtree weighs whose top's level is below the number.
unfoldable pub weight : ℕ → ℕ
weight zero = 1
weight (suc n) = 2 ^ 64 * weight n

-- What subtrees that are due weigh in all.
abbrev pub weights : List Due → ℕ
weights [] = 0
weights (d ∷ ds) = weight d.bound + weights ds

-- How far it has to go in one tree: so many pairs, and what is due.
abbrev pub to_go : Left → ℕ
to_go left = length left.pairs + weights left.due

-- How far it has to go.
abbrev pub far : Lefts → ℕ
far lefts = to_go lefts.before + to_go lefts.after

-- With each change that it gives it comes nearer to its end.
abbrev pub ComesNearer : {C : Type 0} → Lefts → Option C → Lefts → Type 0
ComesNearer old given new = IfSome given (λ change. far new < far old)
