-- What a walk over the leaves of a tree keeps, and what it gives.
use Rattle.std.specs.Prelude.{◌≡◌, ℕ, ◌<◌, List, [], ◌∷◌, ◌++◌, map, length, Option, Some, None}
use Rattle.std.specs.declared.alloc.Global.{Global}
use Rattle.std.specs.declared.collections.VecDeque.{VecDeque}
use Rattle.prolly_look_up.specs.Entries.{IsWhole}
use Rattle.prolly_look_up.specs.HeldPairs.{pairs_held}
use Rattle.prolly_entry.specs.Reference.{reference_of}
use Rattle.prolly_entry.specs.declared.version.Version.{Version}
use Rattle.prolly_root.specs.declared.root_fault.RootFault.{RootFault}
use Rattle.prolly_root_diff.specs.DueTrees.{IsWholeTree, all_due}
use Rattle.prolly_root_diff.specs.FileWalks.{ComesInFile}
use Rattle.prolly_root_diff.specs.FirstFault.{TreeStep}
use Rattle.prolly_root_diff.specs.Left.{Due, left_of_root}
use Rattle.prolly_root_diff.specs.Leaves.{LeadDown, leaves_on}
use Rattle.prolly_root_diff.specs.declared.root_leaves.LeafRead.{LeafRead}
use Rattle.prolly_root_diff.specs.declared.siblings.Siblings.{Siblings}
use Rattle.prolly_root.specs.ChunkFile.{ChunkFile}

-- A walk over the leaves: the version of the tree's chunks, the subtrees that are due, and the fault
-- that stopped it.
pub record LeafWalk (T : Type 0) : Type 0 where
  pub version : Version
  pub due : VecDeque (Siblings T) Global
  pub fault : Option RootFault

-- What is due of the tree.
abbrev pub due_of_walk : {T : Type 0} → LeafWalk T → List Due
due_of_walk walk = all_due walk.due.items

-- Nothing was read yet of the tree with this root.
pub record IsLeafWalk {T : Type 0} (version : Version) (root : List ℕ) (walk : LeafWalk T) : Type 0
  where
    pub version_is : walk.version ≡ version
    pub at : IsWholeTree root walk.due.items
    pub due : due_of_walk walk ≡ (left_of_root root).due
    pub goes : walk.fault ≡ None

-- The chunk is a leaf that has pairs, and has the reference.
pub record IsLeafRead (version : Version) (leaf : LeafRead) : Type 0 where
  pub whole : IsWhole version leaf.chunk.items
  pub some : 0 < length (pairs_held leaf.chunk.items)
  pub reference : leaf.reference.0 ≡ reference_of leaf.chunk.items

-- What a walk gives that read these chunks: the last of them, which is the only leaf among them that
-- has pairs; or none, where there is none among them and nothing is due any more.
abbrev pub IsGiven : Version → List (List ℕ) → Option LeafRead → List Due → Type 0
IsGiven version read None due = (leaves_on read ≡ []) × (due ≡ [])
IsGiven version read (Some leaf) due = IsLeafRead version leaf × (before : List (List ℕ)) ×
    (leaves_on before ≡ []) × (read ≡ before ++ leaf.chunk.items ∷ [])

-- Take a file that the source goes over, in which what was due stood. A walk read these chunks
-- there, one after another, and came to what is due now.
abbrev pub ReadsInFile : {S T : Type 0} → (S → ChunkFile → Type 0) →
    (ChunkFile → T → ℕ → ℕ → Type 0) → Version → S → List (List ℕ) → List (Siblings T) →
    List (Siblings T) → Type 0
ReadsInFile goes_over stands version source read =
    ComesInFile goes_over stands version source (map (λ c. TreeStep.Reads c) read)

-- What a call of a walk gives, and the chunks that it read for that: each in the place of the first
-- subtree that was due, and in each file that the source goes over where that is to stand.
pub record GivesNext {S T : Type 0} (goes_over : S → ChunkFile → Type 0)
    (stands : ChunkFile → T → ℕ → ℕ → Type 0) (version : Version) (source : S)
    (old : List (Siblings T)) (leaf : Option LeafRead) (new : List (Siblings T)) : Type 0 where
  pub read : List (List ℕ)
  pub lead : LeadDown version (all_due old) read (all_due new)
  pub comes : ReadsInFile goes_over stands version source read old new
  pub given : IsGiven version read leaf (all_due new)
