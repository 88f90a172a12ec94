-- How far a walk has to go yet: a chunk that is due weighs more than all that is due below it.
use Rattle.std.specs.Prelude.{ℕ, zero, suc, ◌+◌, ◌*◌, ◌^◌, ◌<◌, List, [], ◌∷◌, Option, Some, None, IfSome}
use Rattle.prolly_range.specs.SetProof.{Due}

-- What a chunk weighs that stands below this level.
unfoldable pub weight : ℕ → ℕ
weight zero = 1
weight (suc n) = 2 ^ 64 * weight n

-- A number that the level of a chunk is below, where this is the level of the chunk above it. (A
-- level is a byte.)
abbrev pub bound_of : Option ℕ → ℕ
bound_of None = 256
bound_of (Some above) = above

-- What all that is due weighs.
abbrev pub to_go : List Due → ℕ
to_go [] = 0
to_go (d ∷ ds) = weight (bound_of d.above) + to_go ds

-- With each chunk that is taken a walk comes nearer to its end.
abbrev pub ComesNearer : {C : Type 0} → List Due → Option C → List Due → Type 0
ComesNearer old given new = IfSome given (λ chunk. to_go new < to_go old)
