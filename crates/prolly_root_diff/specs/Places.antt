-- Where the subtrees that are due stand in a chunk file of any bytes, as a source finds them.
use Rattle.std.specs.Prelude.{◌≡◌, ◌-◌, ◌<◌, ◌⊎◌, ℕ, List, [], ◌∷◌, ◌++◌, map, length, Option, Some}
use Rattle.std.specs.Prelude.{None, Result, Ok, Err}
use Rattle.prolly_look_up.specs.Way.{level_of}
use Rattle.prolly_entry.specs.declared.reference.Ref.{Ref}
use Rattle.prolly_entry.specs.declared.version.Version.{Version}
use Rattle.prolly_root.specs.ChunkFile.{ChunkFile, nth_in}
use Rattle.prolly_root.specs.RootFault.{OnlyRead}
use Rattle.prolly_root.specs.declared.root_fault.RootFault.{RootFault}
use Rattle.prolly_root_diff.specs.FirstFault.{DueAt, IsMissing}
use Rattle.prolly_root_diff.specs.FirstFault.{IsAtSpot, children_at, tree_at}
use Rattle.prolly_root_diff.specs.declared.siblings.Parent.{Parent}
use Rattle.prolly_root_diff.specs.declared.siblings.Siblings.{Siblings}

-- The node stands in the file, and the frames below it begin with that of the chunk `from`. The level
-- is that of its chunk. So many of its children are left after the next one.
pub record NodeStands {T : Type 0} (stands : ChunkFile → T → ℕ → ℕ → Type 0) (file : ChunkFile)
    (parent : Parent T) (behind from : ℕ) : Type 0 where
  pub number : ℕ
  pub there : stands file parent.place number from
  pub level : parent.level ≡ level_of (nth_in file number)
  pub fewer : behind < parent.count

-- The next subtree and those after it are due there: the whole tree at the root, or the last children
-- of a node.
abbrev pub StandBelow : {T : Type 0} → (ChunkFile → T → ℕ → ℕ → Type 0) → ChunkFile →
    Option (Parent T) → Ref → List Ref → List DueAt → Type 0
StandBelow stands file None next behind due = (behind ≡ []) × (due ≡ tree_at next.0)
StandBelow stands file (Some parent) next behind due = (from : ℕ) ×
    NodeStands stands file parent (length behind) from ×
    (due ≡ children_at parent.level from (parent.count - length behind - 1)
    (next.0 ∷ map (λ r. r.0) behind))

-- So it is with those that are left below one node.
abbrev pub SiblingsStand : {T : Type 0} → (ChunkFile → T → ℕ → ℕ → Type 0) → ChunkFile →
    Siblings T → List DueAt → Type 0
SiblingsStand stands file siblings due =
    StandBelow stands file siblings.parent siblings.next siblings.behind.items due

-- So it is with those below each node.
abbrev pub AllStand : {T : Type 0} → (ChunkFile → T → ℕ → ℕ → Type 0) → ChunkFile →
    List (Siblings T) → List DueAt → Type 0
AllStand stands file [] due = due ≡ []
AllStand stands file (siblings ∷ others) due = (own : List DueAt) × (rest : List DueAt) ×
    (due ≡ own ++ rest) × SiblingsStand stands file siblings own × AllStand stands file others rest

-- The place is that where the first subtree is due; or no chunk stands there, and it is told why.
abbrev pub FindsFirst : {T : Type 0} → (ChunkFile → T → ℕ → ℕ → Type 0) → Version → ChunkFile →
    DueAt → Result T RootFault → Type 0
FindsFirst stands version file first (Ok place) = (number : ℕ) × (from : ℕ) ×
    stands file place number from × IsAtSpot version file first.spot number from
FindsFirst stands version file first (Err fault) =
    OnlyRead fault ⊎ IsMissing version file first.spot fault

-- This chunk, in this place, stands there.
abbrev pub IsThere : {T : Type 0} → (ChunkFile → T → ℕ → ℕ → Type 0) → Version → ChunkFile →
    DueAt → List ℕ → T → Type 0
IsThere stands version file first chunk place = (number : ℕ) × (from : ℕ) ×
    stands file place number from × IsAtSpot version file first.spot number from ×
    (chunk ≡ nth_in file number)
