-- How many changes the difference of two maps has, and the line that tells it.
use Rattle.std.specs.Fmt.{decimal}
use Rattle.std.specs.List.{count_by}
use Rattle.std.specs.Option.{is_none, is_some}
use Rattle.std.specs.Prelude.{◌≡◌, ◌&&◌, ℕ, List, [], ◌∷◌, ◌++◌, length, Bool, true, false, codes}
use Rattle.prolly_entry.specs.Pair.{Pair}
use Rattle.prolly_entry.specs.Record.{Record}
use Rattle.prolly_tree.specs.LookUp.{find}
use Rattle.prolly_look_up.specs.Content.{chunks_of, Content}
use Rattle.prolly_chunk.specs.Missing.{lacking, chunks_size}
use Rattle.prolly_answer.specs.declared.answers.diff.ChangeCounts.{ChangeCounts}

-- ---- kinds of changes

-- Whether the record puts a value at a key that the old map lacks.
abbrev pub is_added : List Pair → Record → Bool
is_added old r = is_none (find old r.key) && is_some r.value

-- Whether the record puts a value at a key that the old map has.
abbrev pub is_changed : List Pair → Record → Bool
is_changed old r = is_some (find old r.key) && is_some r.value

-- Whether the record removes its key.
abbrev pub is_removed : Record → Bool
is_removed r = is_none r.value

-- These are the numbers of the records of each kind.
pub record AreCounts (old : List Pair) (records : List Record) (counts : ChangeCounts)
    : Type 0 where
  pub added_is : counts.added ≡ count_by (is_added old) records
  pub changed_is : counts.changed ≡ count_by (is_changed old) records
  pub removed_is : counts.removed ≡ count_by is_removed records

-- Whether there are changes.
abbrev pub are_some : List Record → Bool
are_some [] = false
are_some (r ∷ records) = true

-- ---- the line

-- The numbers of keys, of chunks and of their bytes, each behind the word for it, and a newline.
abbrev pub stat_text : ℕ → ℕ → ℕ → ℕ → ℕ → List ℕ
stat_text added changed removed chunks bytes =
    codes "added " ++ decimal added ++ codes " changed " ++ decimal changed ++
    codes " removed " ++ decimal removed ++ codes " chunks " ++ decimal chunks ++
    codes " bytes " ++ decimal bytes ++ 0x0A ∷ []

-- The line of two files and the difference of their maps: how many records there are of each kind,
-- and how many chunks of the new file the old one lacks.
abbrev pub counts_line : Content → Content → List Record → List ℕ
counts_line old new records =
    let missing = lacking (chunks_of old) (chunks_of new) in
    stat_text (count_by (is_added old.pairs) records) (count_by (is_changed old.pairs) records)
    (count_by is_removed records) (length missing) (chunks_size missing)
