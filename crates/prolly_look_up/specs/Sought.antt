-- What a look-up seeks, and which child of a node it goes on in. (This project's rules.)
use Rattle.std.specs.Ordering.{is_lt}
use Rattle.std.specs.Prelude.{ℕ, ◌-◌, nat_lt, List, [], ◌∷◌, Option, Some, None, if◌then◌else◌, ◌≡◌}
use Rattle.std.specs.Prelude.{◌<◌, ◌≤◌, ◌++◌, length, drop, option_map}
use Rattle.prolly_entry.specs.Keys.{key_order}
use Rattle.prolly_entry.specs.declared.version.Version.{Version}
use Rattle.prolly_look_up.specs.Entries.{Child, IsNode, children_in}
use Rattle.prolly_look_up.specs.Kinds.{Entries}
use Rattle.prolly_look_up.specs.Kinds.Entries.{Leaf, Node}
use Rattle.prolly_look_up.specs.declared.sought.ChildSought.{ChildSought}
use Rattle.prolly_look_up.specs.declared.sought.Mark.{Mark}
use Rattle.prolly_look_up.specs.declared.sought.Sought.{Sought as Asked}
use Rattle.prolly_look_up.specs.declared.sought.Sought.TheVariants.{Key as AskedKey}
use Rattle.prolly_look_up.specs.declared.sought.Sought.TheVariants.{Number as AskedNumber}
pub use Rattle.prolly_entry.specs.Child.{value_of}

-- What a look-up seeks: a key, or the pair of this number, counted from 0 in the order of keys.
pub data Sought : Type 0 where
  Key : List ℕ → Sought
  Number : ℕ → Sought

-- What a call was asked for, as what is sought.
abbrev pub sought_of : Asked → Sought
sought_of (AskedKey key) = Key key.now
sought_of (AskedNumber n) = Number n

-- The child that a look-up goes on in, and what is sought below it: for a key the first whose
-- greatest key is not below it; for a pair's number the first that has the pair below it, by the
-- counts, and how many pairs below it come before that pair.
abbrev pub child_sought : Sought → List Child → Option (Child × Sought)
child_sought (Key key) [] = None
child_sought (Key key) (c ∷ cs) =
    if is_lt (key_order c.key key) then child_sought (Key key) cs else Some (c, Key key)
child_sought (Number n) [] = None
child_sought (Number n) (c ∷ cs) =
    if nat_lt n c.count then Some (c, Number n) else child_sought (Number (n - c.count)) cs

-- The reference of a child, and what is sought below it.
abbrev pub reference_and_sought : Child × Sought → List ℕ × Sought
reference_and_sought c = (c.0.reference, c.1)

-- A look-up goes on from these entries at the chunk with this reference, and seeks this there.
abbrev pub LeadsOn : Sought → Entries → List ℕ → Sought → Type 0
LeadsOn sought (Leaf pairs) reference next = ⊥
LeadsOn sought (Node children) reference next =
    option_map reference_and_sought (child_sought sought children) ≡ Some (reference, next)

-- It ends at these entries: those of a leaf, or of a node none of whose children it goes on in.
abbrev pub EndsAt : Sought → Entries → Type 0
EndsAt sought (Leaf pairs) = Unit {0}
EndsAt sought (Node children) = child_sought sought children ≡ None

-- The child of these in which a look-up goes on: its number, its reference, and what is
-- sought below it.
pub record IsChildSought (sought : Sought) (children : List Child) (is : ChildSought) : Type 0 where
  pub before : List Child
  pub child : Child
  pub after : List Child
  pub are : children ≡ before ++ child ∷ after
  pub number : is.number ≡ length before
  pub reference : is.reference.0 ≡ child.reference
  pub sought_there : child_sought sought children ≡ Some (child, sought_of is.sought)

-- The entries are those of a node, and this is the child in which a look-up goes on.
abbrev pub IsChildOf : Sought → Entries → ChildSought → Type 0
IsChildOf sought (Leaf pairs) is = ⊥
IsChildOf sought (Node children) is = IsChildSought sought children is

-- The mark stands between the entries of the chunk, where that is a node: before it are so many
-- children, and behind it the others.
pub record IsMark (version : Version) (chunk : List ℕ) (mark : Mark) : Type 0 where
  pub before : List Child
  pub are : children_in version (drop 1 chunk) ≡
      before ++ children_in version (drop mark.offset chunk)
  pub number : mark.number ≡ length before
  pub node : IsNode version (drop 1 chunk) [] → IsNode version (drop mark.offset chunk) []
  pub few : mark.number < mark.offset
  pub within : mark.offset ≤ length chunk
