-- Where a cursor stands. (This project's rules.)
use Rattle.std.specs.List.{sum_by}
use Rattle.std.specs.Prelude.{◌≡◌, ℕ, List, [], ◌∷◌, ◌++◌, drop, Option, MatchOption, ◌+◌, ◌-◌}
use Rattle.std.specs.Borrow.{Bor}
use Rattle.prolly_entry.specs.Pair.{Pair}
use Rattle.prolly_c.specs.Runs.{AreRuns, IsPart}
use Rattle.prolly_c.specs.declared.cursor.Cursor.{Cursor}
use Rattle.prolly_c.specs.declared.run.Run.{Run}

-- The cursor stands before these pairs: those that are left of the run in hand, and those of the
-- runs behind it.
pub record IsAt (bytes : List ℕ) (runs : List Run) (cursor : Cursor) (pairs : List Pair) : Type 0
  where
    pub hand : List Pair
    pub behind : List Pair
    pub number : ℕ
    pub are : pairs ≡ hand ++ behind
    pub hand_is : IsPart bytes cursor.at cursor.end hand
    pub runs_are : AreRuns bytes number (drop cursor.next runs) behind

-- The cursor before all pairs.
abbrev pub first_place : Cursor
first_place = record { at = 0; end = 0; next = 0 }

-- The pair is the first of these, and the cursor stands behind it.
abbrev pub StepsOver : List ℕ → List Run → List Pair → (Bor (List ℕ) × Bor (List ℕ)) × Cursor →
    Type 0
StepsOver bytes runs pairs step = (rest : List Pair) ×
    (pairs ≡ record { key = step.0.0.now; value = step.0.1.now } ∷ rest) × IsAt bytes runs step.1 rest

-- So it is, or there is none.
abbrev pub Steps : List ℕ → List Run → List Pair →
    Option ((Bor (List ℕ) × Bor (List ℕ)) × Cursor) → Type 0
Steps bytes runs pairs step = MatchOption step (pairs ≡ []) (StepsOver bytes runs pairs)

-- How many bytes a run has.
abbrev pub run_size : Run → ℕ
run_size run = run.end - run.start

-- How many bytes are before a cursor: what is left in hand, and all runs behind it.
abbrev pub weight : List Run → Cursor → ℕ
weight runs cursor = (cursor.end - cursor.at) + sum_by run_size (drop cursor.next runs)
