-- What a walk keeps of one tree.
use Rattle.std.specs.Prelude.{◌≡◌, ℕ, ◌⊎◌, List, [], ◌∷◌, map, length, drop, Option}
use Rattle.std.specs.Prelude.{Some, None, option_map}
use Rattle.std.specs.List.{flat_map}
use Rattle.prolly_look_up.specs.Entries.{children_in}
use Rattle.prolly_look_up.specs.Way.{level_of}
use Rattle.prolly_entry.specs.declared.reference.Ref.{Ref}
use Rattle.prolly_entry.specs.declared.version.Version.{Version}
use Rattle.prolly_root_diff.specs.Left.{Due, Left}
use Rattle.prolly_root_diff.specs.declared.side.Side.{Side}
use Rattle.prolly_root_diff.specs.declared.siblings.Parent.{Parent}
use Rattle.prolly_root_diff.specs.declared.siblings.Siblings.{Siblings}

-- ---- what is left

-- A number that the levels below a node are below; where none stands above, any level is. (A level
-- is a byte.)
abbrev pub bound_of : {T : Type 0} → Option (Parent T) → ℕ
bound_of None = 256
bound_of (Some parent) = parent.level

-- The level of the node above.
abbrev pub level_above : {T : Type 0} → Siblings T → Option ℕ
level_above siblings = option_map (λ p. p.level) siblings.parent

-- The subtree of this reference is due.
abbrev pub due_at : ℕ → Ref → Due
due_at bound reference = record { reference = reference.0; bound = bound }

-- The subtrees that are due below one node.
abbrev pub dues : {T : Type 0} → Siblings T → List Due
dues siblings = due_at (bound_of siblings.parent) siblings.next ∷
    map (due_at (bound_of siblings.parent)) siblings.behind.items

-- What is left of the tree.
abbrev pub left_of : {T : Type 0} → Side T → Left
left_of side = record { pairs = side.leaf; due = flat_map dues side.due.items }

-- The one is left of the other behind its first subtree.
pub record IsBehindFirst {T : Type 0} (old new : Siblings T) : Type 0 where
  pub are : old.behind.items ≡ new.next ∷ new.behind.items
  pub parent : new.parent ≡ old.parent

-- What is left of these behind the first one was put before the others, where some are left.
abbrev pub PutBehindFirst : {T : Type 0} → Siblings T → List (Siblings T) → List (Siblings T) →
    Type 0
PutBehindFirst first others all = ((first.behind.items ≡ []) × (all ≡ others))
    ⊎ ((left : _) × IsBehindFirst first left × (all ≡ left ∷ others))

-- It was gone behind the first subtree that was due.
pub record PassesFirst {T : Type 0} (old new : Side T) : Type 0 where
  pub first : Siblings T
  pub others : List (Siblings T)
  pub was : old.due.items ≡ first ∷ others
  pub put : PutBehindFirst first others new.due.items
  pub pairs : new.leaf ≡ old.leaf

-- ---- the subtrees below one node

-- These are all children of the node with these bytes, which stands there.
pub record AreChildrenOf {T : Type 0} (version : Version) (node : List ℕ) (place : T)
    (siblings : Siblings T) : Type 0 where
  pub parent : Parent T
  pub above : siblings.parent ≡ Some parent
  pub stands : parent.place ≡ place
  pub level : parent.level ≡ level_of node
  pub count : parent.count ≡ length (children_in version (drop 1 node))
  pub references : siblings.next.0 ∷ map (λ r. r.0) siblings.behind.items ≡
      map (λ c. c.reference) (children_in version (drop 1 node))

-- The nodes are one, if there is one; how far a source has come below it is not asked.
abbrev pub AreOne : {T : Type 0} → Option (Parent T) → Option (Parent T) → Type 0
AreOne None None = Unit {0}
AreOne (Some old) (Some new) = (new.level ≡ old.level) × (new.count ≡ old.count)
AreOne old new = ⊥

-- The one has the same subtrees as the other.
pub record HaveSame {T : Type 0} (old new : Siblings T) : Type 0 where
  pub next : new.next ≡ old.next
  pub behind : new.behind ≡ old.behind
  pub above : AreOne old.parent new.parent
