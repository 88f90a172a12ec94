-- The numbers of a tree: its levels.
use Rattle.std.specs.List.{filter, AllByRecursion}
use Rattle.std.specs.Prelude.{◌≡◌, ℕ, List, length, ◌-◌, ◌/◌, ◌<◌, ◌≤◌, ◌==◌, map}
use Rattle.std.specs.Prelude.{slice_get, Some, nat_lt, nat_le, count_by}
use Rattle.prolly_look_up.specs.Content.{chunks_of, Content}
use Rattle.prolly_look_up.specs.Way.{level_of}
use Rattle.prolly_chunk.specs.Missing.{chunks_size}
use Rattle.prolly_chunk.specs.declared.level_stats.LevelStats.{LevelStats}

-- The chunks of a level, in their order.
abbrev pub at_level : ℕ → List (List ℕ) → List (List ℕ)
at_level level chunks = filter (λ c. level_of c == level) chunks

-- The number stands at the place, counted from 0, among the sizes in their order: no more of them
-- than the place's number are below it, and more are not above it.
pub record IsAtPlace (sizes : List ℕ) (place n : ℕ) : Type 0 where
  pub below : count_by (λ size. nat_lt size n) sizes ≤ place
  pub upto : place < count_by (λ size. nat_le size n) sizes

-- These are the numbers of the chunks, of which there are some.
pub record IsLevel (chunks : List (List ℕ)) (level : LevelStats) : Type 0 where
  pub some : 0 < length chunks
  pub chunks_are : level.chunks ≡ length chunks
  pub bytes_are : level.bytes ≡ chunks_size chunks
  pub least_is : IsAtPlace (map length chunks) 0 level.least
  pub middle_is : IsAtPlace (map length chunks) (length chunks / 2) level.middle
  pub greatest_is : IsAtPlace (map length chunks) (length chunks - 1) level.greatest

-- Each of the levels is that of the chunks that are of the level of its number, counted from 0, and
-- each chunk is of one of these levels.
pub record AreLevels (chunks : List (List ℕ)) (levels : List LevelStats) : Type 0 where
  pub are : (number : ℕ) (level : LevelStats) → slice_get levels number ≡ Some level →
      IsLevel (at_level number chunks) level
  pub all : AllByRecursion (λ c. level_of c < length levels) chunks

-- The chunks are those of the file of some map.
pub record AreOfMap (chunks : List (List ℕ)) : Type 0 where
  pub content : Content
  pub are : chunks ≡ chunks_of content
