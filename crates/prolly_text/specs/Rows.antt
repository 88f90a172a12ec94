-- The levels of a tree in their places.
use Rattle.std.specs.Prelude.{ℕ, suc, List, [], ◌∷◌}
use Rattle.prolly_text.specs.declared.numbers.table.Row.{Row}
use Rattle.prolly_chunk.specs.declared.level_stats.LevelStats.{LevelStats}
use Rattle.prolly_text.specs.declared.numbers.table.TreeNumbers.{TreeNumbers}

-- Levels in rows, upwards from this number: the first one has these entries, and each other one an
-- entry for each chunk of the level below it.
abbrev pub rows_from : ℕ → ℕ → List LevelStats → List Row
rows_from number entries [] = []
rows_from number entries (level ∷ above) =
    record { number = number; entries = entries; level = level } ∷
    rows_from (suc number) level.chunks above

-- The rows of a tree, from the leaves up: the entries of the leaves are the pairs.
abbrev pub rows_of : TreeNumbers → List Row
rows_of tree = rows_from 0 tree.pairs tree.levels.now
