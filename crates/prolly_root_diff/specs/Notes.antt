-- What a walk over two trees notes of the chunks that it reads, and what that says of the trees.
use Rattle.std.specs.Prelude.{◌≡◌, ℕ, List, [], ◌∷◌, ◌++◌, map, length, not, Option, Some, None}
use Rattle.std.specs.List.{AllByRecursion, filter, list_any, sum_by}
use Rattle.std.specs.Prelude.{◌⊎◌, Bool}
use Rattle.std.specs.Str.{bytes_eq}
use Rattle.prolly_look_up.specs.Content.{chunk_bytes}
use Rattle.prolly_chunk.specs.Missing.{AreSo, lacking}
use Rattle.prolly_chunk.specs.declared.missing.Missing.{Missing}
use Rattle.prolly_entry.specs.Cut.{sha512_cut}
use Rattle.prolly_entry.specs.Pair.{IsPair, Pair}
use Rattle.prolly_entry.specs.Reference.{reference_of}
use Rattle.prolly_entry.specs.declared.reference.Ref.{Ref}
use Rattle.prolly_entry.specs.declared.version.Version.{Version}
use Rattle.prolly_tree.specs.Difference.{IsMap}
use Rattle.prolly_tree.specs.File.{root_reference}
use Rattle.prolly_root_diff.specs.Left.{Left, Opens}
use Rattle.prolly_root_diff.specs.Walks.{Clashing, IsAtEnd, Leads, Lefts, Move, at_roots, new_steps}
use Rattle.prolly_root_diff.specs.Walks.{old_steps, read_on}
use Rattle.prolly_root_diff.specs.FirstFault.{read_by}
use Rattle.prolly_root_diff.specs.declared.notes.Note.{Note}
use Rattle.prolly_root_diff.specs.declared.notes.Notes.{Notes}

-- ---- the chunks of each tree

-- The chunks of the old tree that are read on the way.
abbrev pub read_old : List Move → List (List ℕ)
read_old way = read_by (old_steps way)

-- The chunks of the new tree that are read on the way.
abbrev pub read_new : List Move → List (List ℕ)
read_new way = read_by (new_steps way)

-- ---- what is noted

-- A chunk was read in the place of the first subtree, and the note is its reference and its length.
pub record Reads (version : Version) (old new : Left) (note : Note) : Type 0 where
  pub opens : Opens version old new
  pub reference : note.reference.0 ≡ reference_of opens.chunk
  pub length : note.length ≡ length opens.chunk

-- The chunk is noted after the others of the old tree, where notes are taken.
abbrev pub AddsOld : Note → Option Notes → Option Notes → Type 0
AddsOld note None new = new ≡ None
AddsOld note (Some before) new = (after : Notes) × (new ≡ Some after) ×
    (after.old.items ≡ before.old.items ++ note.reference ∷ []) ×
    (after.new.items ≡ before.new.items)

-- It is noted after the others of the new tree.
abbrev pub AddsNew : Note → Option Notes → Option Notes → Type 0
AddsNew note None new = new ≡ None
AddsNew note (Some before) new = (after : Notes) × (new ≡ Some after) ×
    (after.old.items ≡ before.old.items) ×
    (after.new.items ≡ before.new.items ++ note ∷ [])

-- What a note says: a reference and a length.
abbrev pub said_by : Note → List ℕ × ℕ
said_by note = (note.reference.0, note.length)

-- What a note of a chunk is to say: its reference and its length.
abbrev pub said_of : List ℕ → List ℕ × ℕ
said_of chunk = (reference_of chunk, length chunk)

-- The notes are of the chunks that are read on the way: the references of those of the old tree, and
-- the references and lengths of those of the new one.
pub record AreNotesOf (way : List Move) (notes : Notes) : Type 0 where
  pub old : map (λ r. r.0) notes.old.items ≡ map reference_of (read_old way)
  pub new : map said_by notes.new.items ≡ map said_of (read_new way)

-- So it is where notes are taken.
abbrev pub AreNoted : List Move → Option Notes → Type 0
AreNoted way None = Unit {0}
AreNoted way (Some notes) = AreNotesOf way notes

-- The notes of a way were taken, and those of this way after it.
abbrev pub AddsNotes : List Move → Option Notes → Option Notes → Type 0
AddsNotes more old new = (way : List Move) → AreNoted way old → AreNoted (way ++ more) new

-- ---- what is missing

-- Whether none of these references is that of the note.
abbrev pub is_unknown : List Ref → Note → Bool
is_unknown known note = not (list_any (λ r. bytes_eq r.0 note.reference.0) known)

-- The notes of the new tree whose references none of the old tree has.
abbrev pub unknown_of : Notes → List Note
unknown_of notes = filter (is_unknown notes.old.items) notes.new.items

-- The numbers are those of the chunks of these notes.
pub record AreOf (notes : List Note) (missing : Missing) : Type 0 where
  pub chunks_are : missing.chunks ≡ length notes
  pub bytes_are : missing.bytes ≡ sum_by (λ n. n.length) notes

-- Take a way that came here from the roots of two maps, on which this was noted, and after which
-- nothing is left of either tree. The numbers are those of the chunks of the new tree whose references
-- the old one lacks.
-- Or else a chunk of the trees has the reference of a different chunk, which was read on the way or is
-- one of the trees, too.
abbrev pub TellsMissing : Version → Lefts → Option Notes → Missing → Type 0
TellsMissing version to notes missing = (bits bits' : ℕ) (m m' : List Pair) (way : List Move) →
    IsMap m → AllByRecursion IsPair m → IsMap m' → AllByRecursion IsPair m' →
    Leads version (at_roots (root_reference (sha512_cut bits) version m)
    (root_reference (sha512_cut bits') version m')) way to → AreNoted way notes →
    IsAtEnd to.before → IsAtEnd to.after →
    AreSo (lacking (chunk_bytes version bits m) (chunk_bytes version bits' m')) missing
    ⊎ Clashing (read_on way) (chunk_bytes version bits m ++ chunk_bytes version bits' m')

-- Law: the notes of the new tree whose references none of the old tree has tell what is missing.
abbrev pub NotesAreRight : Type 0
NotesAreRight = (version : Version) (to : Lefts) (notes : Notes) (missing : Missing) →
    AreOf (unknown_of notes) missing → TellsMissing version to (Some notes) missing
