-- What is due of a tree, step by step.
use Rattle.std.specs.Prelude.{◌≡◌, ℕ, ◌^◌, ◌<◌, List, [], ◌∷◌, length, None}
use Rattle.std.specs.List.{flat_map}
use Rattle.prolly_look_up.specs.Kinds.{kind_of}
use Rattle.prolly_look_up.specs.Way.{IsNamed, level_of}
use Rattle.prolly_entry.specs.declared.version.Version.{Version}
use Rattle.prolly_root_diff.specs.Left.{Due, opened}
use Rattle.prolly_root_diff.specs.Sides.{dues}
use Rattle.prolly_root_diff.specs.declared.side.Side.{Side}
use Rattle.prolly_root_diff.specs.declared.siblings.Siblings.{Siblings}

-- The whole tree with this root is due, and nothing of it was read yet.
pub record IsWholeTree {T : Type 0} (root : List ℕ) (due : List (Siblings T)) : Type 0 where
  pub whole : Siblings T
  pub one : due ≡ whole ∷ []
  pub next : whole.next.0 ≡ root
  pub alone : whole.behind.items ≡ []
  pub top : whole.parent ≡ None

-- Nothing was read of the tree with this root.
pub record IsAtRoot {T : Type 0} (root : List ℕ) (side : Side T) : Type 0 where
  pub none : side.leaf ≡ []
  pub at : IsWholeTree root side.due.items

-- All that is due.
abbrev pub all_due : {T : Type 0} → List (Siblings T) → List Due
all_due due = flat_map dues due

-- What is due where a chunk is taken in the place of the first subtree: the children of a node are
-- due before the others.
abbrev pub due_behind : Version → List ℕ → List Due → List Due
due_behind version chunk due = (opened (level_of chunk) (kind_of version chunk) due).due

-- A chunk was read in the place of the first subtree, which has this reference. It can be read, and
-- its level is below the number that stood there.
pub record ReadsFirst (version : Version) (old : List Due) (reference chunk : List ℕ)
    (new : List Due) : Type 0 where
  pub first : Due
  pub due : List Due
  pub was : old ≡ first ∷ due
  pub reference_is : reference ≡ first.reference
  pub named : IsNamed version first.reference chunk
  pub falls : level_of chunk < first.bound
  pub short : length chunk < 2 ^ 64
  pub is : new ≡ due_behind version chunk due
