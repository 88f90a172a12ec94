-- What the stages of a pipeline send, and its writer takes.
use Rattle.std.proofs.Common.{◌≡◌, ℕ, suc, true, false, List, ◌∷◌, length, refl}
use Rattle.std.specs.List.{filter}
use Rattle.prolly_tree.specs.Chunk.{Chunk}
use Rattle.prolly_tree.specs.Events.{has_level}

-- How many of the events have the level.
abbrev pub count : ℕ → List Chunk → ℕ
count level events = length (filter (has_level level) events)

-- An event of the level is one more.
pub count_true : (level : ℕ) (e : Chunk) (es : List Chunk) → has_level level e ≡ true →
    count level (e ∷ es) ≡ suc (count level es)
count_true level e es h = rw h refl

-- One of another level is not.
pub count_false : (level : ℕ) (e : Chunk) (es : List Chunk) → has_level level e ≡ false →
    count level (e ∷ es) ≡ count level es
count_false level e es h = rw h refl
