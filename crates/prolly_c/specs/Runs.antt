-- The runs of an index: the pairs of a chunk file, and where they are spelled in its bytes. (This
-- project's rules.)
use Rattle.std.specs.Prelude.{◌≡◌, ℕ, ◌+◌, ◌-◌, ◌<◌, ◌≤◌, ◌/◌, List, [], ◌∷◌, ◌++◌, length, take}
use Rattle.std.specs.Prelude.{drop, get_or, map, Result, MatchResult}
use Rattle.prolly_entry.specs.Keys.{KeyBelow}
use Rattle.prolly_entry.specs.Pair.{Pair}
use Rattle.prolly_look_up.specs.Content.{chunks_of, Content, IsFileOf}
use Rattle.prolly_look_up.specs.Entries.{IsLeaf}
use Rattle.prolly_look_up.specs.HeldPairs.{pairs_held}
use Rattle.prolly_look_up.specs.Sought.{Sought}
use Rattle.prolly_look_up.specs.Sought.Sought.{Key, Number}
use Rattle.prolly_c.specs.declared.run.Run.{Run}
use Rattle.prolly_c.specs.declared.status.WrongIndex.{WrongIndex}

-- The bytes from the one place to the other.
abbrev pub part : List ℕ → ℕ → ℕ → List ℕ
part bytes start end = take (end - start) (drop start bytes)

-- The last of the bytes.
pub record IsEnd (bytes rest : List ℕ) : Type 0 where
  pub front : List ℕ
  pub is : bytes ≡ front ++ rest

-- From the one place to the other the bytes are the spellings of these pairs.
pub record IsPart (bytes : List ℕ) (start end : ℕ) (pairs : List Pair) : Type 0 where
  pub order : start ≤ end
  pub within : end ≤ length bytes
  pub leaf : IsLeaf (part bytes start end) pairs

-- The run holds these pairs, and there are some.
pub record IsRun (bytes : List ℕ) (run : Run) (pairs : List Pair) : Type 0 where
  pub is : IsPart bytes run.start run.end pairs
  pub some : 0 < length pairs

-- The runs hold the pairs, one run behind another, and the first pair has this number.
abbrev pub AreRuns : List ℕ → ℕ → List Run → List Pair → Type 0
AreRuns bytes number [] pairs = pairs ≡ []
AreRuns bytes number (run ∷ runs) pairs = (here : List Pair) × (behind : List Pair) ×
    (pairs ≡ here ++ behind) × (run.first ≡ number) × IsRun bytes run here ×
    AreRuns bytes (number + length here) runs behind

-- The bytes are the file of the content, and the runs hold its pairs.
pub record IsIndexOf (bytes : List ℕ) (content : Content) (runs : List Run) : Type 0 where
  pub file : IsFileOf bytes content
  pub runs_are : AreRuns bytes 0 runs content.pairs

-- ---- how many runs there are

-- How many runs so many pairs of one chunk have: each has 16, but the last one what is left.
abbrev pub runs_for : ℕ → ℕ
runs_for count = (count + 15) / 16

-- How many the pairs of chunks have, of which each has one of these lists.
abbrev pub runs_in : List (List Pair) → ℕ
runs_in [] = 0
runs_in (pairs ∷ lists) = runs_for (length pairs) + runs_in lists

-- How many the pairs of a chunk file have.
abbrev pub run_count : Content → ℕ
run_count content = runs_in (map pairs_held (chunks_of content))

-- ---- the run that leads to what is sought

-- The run begins before what is sought or at it.
abbrev pub StartsUpTo : List ℕ → Sought → Run → Type 0
StartsUpTo bytes (Key key) run = (p : Pair) (ps : List Pair) → IsRun bytes run (p ∷ ps) →
    KeyBelow key p.key → ⊥
StartsUpTo bytes (Number n) run = run.first ≤ n

-- The run begins behind what is sought.
abbrev pub StartsBehind : List ℕ → Sought → Run → Type 0
StartsBehind bytes (Key key) run = (p : Pair) (ps : List Pair) → IsRun bytes run (p ∷ ps) →
    KeyBelow key p.key
StartsBehind bytes (Number n) run = n < run.first

-- Of so many runs the last begins up to what is sought, and the run behind them, if there is one,
-- begins behind it.
pub record AreUpTo (bytes : List ℕ) (runs : List Run) (sought : Sought) (count : ℕ) : Type 0 where
  pub within : count ≤ length runs
  pub last : (other : Run) → 0 < count → StartsUpTo bytes sought (get_or runs (count - 1) other)
  pub behind : (other : Run) → count < length runs → StartsBehind bytes sought
      (get_or runs count other)

-- ---- what is found

-- The answer is this one: a call whose index is right never says that it is wrong.
abbrev pub Answers : {A : Type 0} → (A → Type 0) → Result A WrongIndex → Type 0
Answers P result = MatchResult result P (λ fault. ⊥)
