-- What a look-up comes to at a chunk.
use Rattle.std.specs.Prelude.{◌≡◌, ℕ, List, Option, Some}
use Rattle.prolly_entry.specs.Keys.{Rising}
use Rattle.prolly_entry.specs.Pair.{Pair}
use Rattle.prolly_entry.specs.Reference.{reference_of}
use Rattle.prolly_entry.specs.declared.version.Version.{Version}
use Rattle.prolly_look_up.specs.Entries.{Holds, IsWhole}
use Rattle.prolly_look_up.specs.HeldPairs.{pairs_held}
use Rattle.prolly_look_up.specs.Kinds.{kind_of}
use Rattle.prolly_look_up.specs.Sought.{Sought, EndsAt, LeadsOn, sought_of}
use Rattle.prolly_look_up.specs.Way.{FallsTo, IsNamed, entry_keys, level_of}
use Rattle.prolly_look_up.specs.declared.step.ChunkFlaw.{ChunkFlaw}
use Rattle.prolly_look_up.specs.declared.step.ChunkFlaw.TheVariants.{Entries, Level, Order}
use Rattle.prolly_look_up.specs.declared.step.ChunkFlaw.TheVariants.{Reference}
use Rattle.prolly_look_up.specs.declared.step.Step.{Step}
use Rattle.prolly_look_up.specs.declared.step.Step.TheVariants.{End, Below}

-- The look-up ends at the chunk, and these are the pairs that it holds; or goes on from it at the
-- chunk that is due.
abbrev pub IsStep : Version → Sought → List ℕ → Step → Type 0
IsStep version sought chunk (End pairs) = EndsAt sought (kind_of version chunk) ×
    (pairs ≡ pairs_held chunk)
IsStep version sought chunk (Below due) =
    LeadsOn sought (kind_of version chunk) due.reference.0 (sought_of due.sought) ×
    (due.above ≡ Some (level_of chunk))

-- What is wrong first with a chunk, where one with this reference is due below this level.
abbrev pub IsFlawedChunk : Version → List ℕ → Option ℕ → List ℕ → ChunkFlaw → Type 0
IsFlawedChunk version due above chunk Reference = reference_of chunk ≡ due → ⊥
IsFlawedChunk version due above chunk Entries = (reference_of chunk ≡ due) ×
    ((pairs : List Pair) → Holds version chunk pairs → ⊥)
IsFlawedChunk version due above chunk Order = (reference_of chunk ≡ due) × IsWhole version chunk ×
    (Rising (entry_keys (kind_of version chunk)) → ⊥)
IsFlawedChunk version due above chunk Level = IsNamed version due chunk × (FallsTo above chunk → ⊥)
