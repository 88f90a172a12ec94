-- An index that is written, run by run. (This project's rules.)
use Rattle.std.specs.List.{flat_map, AllByRecursion}
use Rattle.std.specs.Prelude.{◌≡◌, ℕ, ◌+◌, ◌≤◌, List, ◌++◌, length, take}
use Rattle.prolly_entry.specs.Pair.{Pair, IsPair}
use Rattle.prolly_entry.specs.Spelling.{pair_spelling}
use Rattle.prolly_c.specs.Runs.{AreRuns, runs_for}
use Rattle.prolly_c.specs.declared.writer.Written.{Written}
use Rattle.prolly_c.specs.declared.run.Run.{Run}

-- The bytes are the spellings of these pairs, and then this tail.
pub record Spells (bytes : List ℕ) (pairs : List Pair) (tail : List ℕ) : Type 0 where
  pub is : bytes ≡ flat_map pair_spelling pairs ++ tail
  pub lawful : AllByRecursion IsPair pairs

-- So many of the first of these pairs were passed, and the rest of the bytes is behind them.
pub record Passes (bytes : List ℕ) (pairs : List Pair) (tail : List ℕ) (count : ℕ) (rest : List ℕ)
    : Type 0 where
  pub here : List Pair
  pub behind : List Pair
  pub are : pairs ≡ here ++ behind
  pub many : count ≡ length here
  pub lawful : AllByRecursion IsPair here
  pub passed : bytes ≡ flat_map pair_spelling here ++ rest
  pub left : Spells rest behind tail

-- So many runs hold these pairs, and they were written where there is room for them.
pub record Wrote (bytes : List ℕ) (out : List Run) (written : Written) (pairs : List Pair) : Type 0
  where
    pub many : written.pairs ≡ length pairs
    pub runs_are : written.runs ≤ length out → AreRuns bytes 0 (take written.runs out) pairs

-- So were the pairs of one chunk behind them, in as many runs as these have.
pub record WroteChunk (bytes : List ℕ) (out : List Run) (before written : Written)
    (done pairs : List Pair) : Type 0 where
  pub wrote : Wrote bytes out written (done ++ pairs)
  pub runs : written.runs ≡ before.runs + runs_for (length pairs)
