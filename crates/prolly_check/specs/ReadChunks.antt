-- Chunks that are read one after another, up to the first that is bad.
use Rattle.std.specs.Prelude.{◌≡◌, ℕ, List, [], ◌∷◌, ◌++◌, length, Result, Ok, Err}
use Rattle.prolly_entry.specs.Pair.{Pair}
use Rattle.prolly_entry.specs.declared.version.Version.{Version}
use Rattle.prolly_look_up.specs.Entries.{Holds}
use Rattle.prolly_check.specs.declared.verdict.fault.CheckFault.{CheckFault}
use Rattle.prolly_check.specs.declared.verdict.fault.CheckFault.TheVariants.{BadChunk}

-- Each chunk is a level and whole lawful entries of that level's kind, and has the pairs of the
-- list beside it.
abbrev pub AllHold : Version → List (List ℕ) → List (List Pair) → Type 0
AllHold version [] [] = Unit {0}
AllHold version [] (pairs ∷ lists) = ⊥
AllHold version (chunk ∷ chunks) [] = ⊥
AllHold version (chunk ∷ chunks) (pairs ∷ lists) = Holds version chunk pairs ×
    AllHold version chunks lists

-- The fault names the first chunk that is not such.
pub record IsBad (version : Version) (chunks : List (List ℕ)) (fault : CheckFault) : Type 0 where
  pub before : List (List ℕ)
  pub chunk : List ℕ
  pub after : List (List ℕ)
  pub lists : List (List Pair)
  pub whole : chunks ≡ before ++ chunk ∷ after
  pub good : AllHold version before lists
  pub bad : (pairs : List Pair) → Holds version chunk pairs → ⊥
  pub is : fault ≡ BadChunk (length before)

-- The chunks have these lists of pairs, or this fault.
abbrev pub IsRead : Version → List (List ℕ) → Result (List (List Pair)) CheckFault → Type 0
IsRead version chunks (Ok lists) = AllHold version chunks lists
IsRead version chunks (Err fault) = IsBad version chunks fault
