-- A walk over two trees by their references.
use Rattle.std.specs.Prelude.{◌≡◌, ℕ, ◌⊎◌, List, [], ◌∷◌, ◌++◌, Option, Some, None}
use Rattle.std.specs.Prelude.{Bool, false}
use Rattle.std.specs.Prelude.{◌<◌, ◌≤◌, ◌≢◌, length, map}
use Rattle.prolly_entry.specs.Keys.{KeyBelow}
use Rattle.prolly_entry.specs.Pair.{Pair, IsPair}
use Rattle.prolly_entry.specs.declared.version.Version.{Version}
use Rattle.prolly_tree.specs.Difference.{IsDifference, IsMap}
use Rattle.prolly_tree.specs.File.{root_reference}
use Rattle.prolly_tree.specs.LookUp.{find}
use Rattle.std.specs.List.{AllByRecursion}
use Rattle.prolly_entry.specs.Cut.{sha512_cut}
use Rattle.prolly_entry.specs.Record.{Record}
use Rattle.prolly_entry.specs.Reference.{reference_of}
use Rattle.prolly_look_up.specs.Content.{chunk_bytes}
use Rattle.prolly_look_up.specs.Way.{Clash, IsNamed}
use Rattle.prolly_root_diff.specs.FirstFault.{TreeStep}
use Rattle.prolly_root_diff.specs.Left.{Due, Left, Opens, left_of_root}
use Rattle.prolly_root_diff.specs.DueTrees.{IsAtRoot}
use Rattle.prolly_root_diff.specs.Sides.{left_of}
use Rattle.prolly_root_diff.specs.declared.notes.Notes.{Notes}
use Rattle.prolly_root_diff.specs.declared.side.Side.{Side}
use Rattle.prolly_root_diff.specs.declared.change.RootChange.{RootChange}
use Rattle.prolly_root_diff.specs.declared.change.RootChange.TheVariants.{Added, Changed, Removed}
use Rattle.prolly_root_diff.specs.declared.onward.Onward.{Onward}
use Rattle.prolly_root_diff.specs.declared.onward.Onward.TheVariants as ways

-- What is left of both trees.
pub record Lefts : Type 0 where
  pub before : Left
  pub after : Left

-- Nothing was read yet from these two roots.
abbrev pub at_roots : List ℕ → List ℕ → Lefts
at_roots old new = record { before = left_of_root old; after = left_of_root new }

-- Two different chunks have one reference: one of the trees, and another one of them, or one of those
-- that were read. (That two chunks that were read have one would say nothing: there are more chunks
-- than references.)
abbrev pub Clashing : List (List ℕ) → List (List ℕ) → Type 0
Clashing read trees = Clash (read ++ trees) trees

-- The chunks can be read: each is bytes, a level, and whole lawful entries of that level's kind,
-- whose keys rise.
abbrev pub AreReadable : Version → List (List ℕ) → Type 0
AreReadable version chunks = AllByRecursion (λ c. IsNamed version (reference_of c) c) chunks

-- ---- how a walk goes on

-- Nothing is in hand, and the first subtrees that are due have one reference.
pub record BeginAlike (before after : Left) : Type 0 where
  pub first : Due
  pub second : Due
  pub due : List Due
  pub due' : List Due
  pub before_is : before ≡ record { pairs = []; due = first ∷ due }
  pub after_is : after ≡ record { pairs = []; due = second ∷ due' }
  pub same : first.reference ≡ second.reference

-- The first pair in hand was taken.
abbrev pub Takes : Left → Pair → Left → Type 0
Takes old pair new = (old.pairs ≡ pair ∷ new.pairs) × (new.due ≡ old.due)

-- Nothing is in hand, nor due.
abbrev pub IsAtEnd : Left → Type 0
IsAtEnd left = (left.pairs ≡ []) × (left.due ≡ [])

-- A pair is in hand, or nothing is left.
abbrev pub IsReady : Left → Type 0
IsReady left = left.pairs ≡ [] → left.due ≡ []

-- Nothing is in hand, and a subtree is due.
abbrev pub IsDue : Left → Type 0
IsDue left = (left.pairs ≡ []) × (0 < length left.due)

-- The pairs are the first that are in hand, where some are.
abbrev pub FirstPair : List Pair → Option Pair → Type 0
FirstPair pairs None = pairs ≡ []
FirstPair pairs (Some first) = (rest : List Pair) × (pairs ≡ first ∷ rest)

-- So a walk goes on from the first pairs of two trees, where there are some.
abbrev pub ComesTo : Option Pair → Option Pair → Onward → Type 0
ComesTo None None way = way ≡ ways.End
ComesTo (Some p) None way = way ≡ ways.Removed
ComesTo None (Some q) way = way ≡ ways.Added
ComesTo (Some p) (Some q) ways.Removed = KeyBelow p.key q.key
ComesTo (Some p) (Some q) ways.Added = KeyBelow q.key p.key
ComesTo (Some p) (Some q) ways.Changed = (p.key ≡ q.key) × (p.value ≢ q.value)
ComesTo (Some p) (Some q) ways.Skip = (p.key ≡ q.key) × (p.value ≡ q.value)
ComesTo (Some p) (Some q) way = ⊥

-- Both trees are ready, and it goes on so from their first pairs.
pub record GoesByPairs (before after : Left) (way : Onward) : Type 0 where
  pub before_ready : IsReady before
  pub after_ready : IsReady after
  pub p : Option Pair
  pub q : Option Pair
  pub first : FirstPair before.pairs p
  pub second : FirstPair after.pairs q
  pub comes : ComesTo p q way

-- The number that the level of the first subtree is below.
abbrev pub first_bound : List Due → ℕ
first_bound [] = 0
first_bound (first ∷ due) = first.bound

-- How a walk goes on. Where both trees begin with subtrees that have one reference, these are
-- passed by, and nothing is read. Where neither is ready, the one is read that may be higher, and of
-- two that may be as high the old one.
abbrev pub IsOnward : Left → Left → Onward → Type 0
IsOnward before after ways.Pass = BeginAlike before after
IsOnward before after ways.OpenOld = IsDue before × (BeginAlike before after → ⊥) ×
    (IsReady after ⊎ (first_bound after.due ≤ first_bound before.due))
IsOnward before after ways.OpenNew = IsDue after × (BeginAlike before after → ⊥) ×
    (IsReady before ⊎ (first_bound before.due < first_bound after.due))
IsOnward before after way = GoesByPairs before after way

-- ---- a change

-- The record that says the change.
abbrev pub record_of : RootChange → Record
record_of (Removed pair) = record { key = pair.key; value = None }
record_of (Added pair) = record { key = pair.key; value = Some pair.value }
record_of (Changed before after) = record { key = after.key; value = Some after.value }

-- What the old map has at the key of the change.
abbrev pub before_of : RootChange → Option (List ℕ)
before_of (Removed pair) = Some pair.value
before_of (Added pair) = None
before_of (Changed before after) = Some before.value

-- ---- the way of a walk

-- What a walk does: it reads a chunk of the old tree, or of the new one; it goes on in both after
-- subtrees that have one reference, or after first pairs that are the same; or it gives a change.
pub data Move : Type 0 where
  ReadsOld : List ℕ → Move
  ReadsNew : List ℕ → Move
  PassesBoth : Move
  SkipsBoth : Move
  Gives : RootChange → Move

-- The pairs that a change tells were taken: from the tree that goes on first, or from both.
abbrev pub TakesChange : Lefts → RootChange → Lefts → Type 0
TakesChange old (Removed pair) new = Takes old.before pair new.before ×
    (new.after ≡ old.after) × IsOnward old.before old.after ways.Removed
TakesChange old (Added pair) new = Takes old.after pair new.after × (new.before ≡ old.before) ×
    IsOnward old.before old.after ways.Added
TakesChange old (Changed pair other) new = Takes old.before pair new.before ×
    Takes old.after other new.after × IsOnward old.before old.after ways.Changed

-- So it comes from the one to the other, as its rules say. A chunk is read in the place of the first
-- subtree: it has its reference, and can be read.
abbrev pub IsMove : Version → Lefts → Move → Lefts → Type 0
IsMove version old (Move.ReadsOld chunk) new = (opens : Opens version old.before new.before) ×
    (chunk ≡ opens.chunk) × (new.after ≡ old.after) ×
    IsOnward old.before old.after ways.OpenOld
IsMove version old (Move.ReadsNew chunk) new = (opens : Opens version old.after new.after) ×
    (chunk ≡ opens.chunk) × (new.before ≡ old.before) ×
    IsOnward old.before old.after ways.OpenNew
IsMove version old Move.PassesBoth new = (alike : BeginAlike old.before old.after) ×
    (new.before ≡ record { pairs = []; due = alike.due }) ×
    (new.after ≡ record { pairs = []; due = alike.due' })
IsMove version old Move.SkipsBoth new = (pair : Pair) × (other : Pair) ×
    Takes old.before pair new.before × Takes old.after other new.after ×
    IsOnward old.before old.after ways.Skip
IsMove version old (Move.Gives change) new = TakesChange old change new

-- This way leads from the one to the other.
abbrev pub Leads : Version → Lefts → List Move → Lefts → Type 0
Leads version old [] new = old ≡ new
Leads version old (move ∷ way) new = (mid : Lefts) × IsMove version old move mid ×
    Leads version mid way new

-- The chunks that are read on the way.
abbrev pub read_on : List Move → List (List ℕ)
read_on [] = []
read_on (Move.ReadsOld chunk ∷ way) = chunk ∷ read_on way
read_on (Move.ReadsNew chunk ∷ way) = chunk ∷ read_on way
read_on (Move.PassesBoth ∷ way) = read_on way
read_on (Move.SkipsBoth ∷ way) = read_on way
read_on (Move.Gives change ∷ way) = read_on way

-- The changes that are given on it.
abbrev pub changes_on : List Move → List RootChange
changes_on [] = []
changes_on (Move.ReadsOld chunk ∷ way) = changes_on way
changes_on (Move.ReadsNew chunk ∷ way) = changes_on way
changes_on (Move.PassesBoth ∷ way) = changes_on way
changes_on (Move.SkipsBoth ∷ way) = changes_on way
changes_on (Move.Gives change ∷ way) = change ∷ changes_on way

-- What is done of the old tree.
abbrev pub old_steps : List Move → List TreeStep
old_steps [] = []
old_steps (Move.ReadsOld chunk ∷ way) = TreeStep.Reads chunk ∷ old_steps way
old_steps (Move.ReadsNew chunk ∷ way) = old_steps way
old_steps (Move.PassesBoth ∷ way) = TreeStep.Passes ∷ old_steps way
old_steps (Move.SkipsBoth ∷ way) = old_steps way
old_steps (Move.Gives change ∷ way) = old_steps way

-- What is done of the new one.
abbrev pub new_steps : List Move → List TreeStep
new_steps [] = []
new_steps (Move.ReadsOld chunk ∷ way) = new_steps way
new_steps (Move.ReadsNew chunk ∷ way) = TreeStep.Reads chunk ∷ new_steps way
new_steps (Move.PassesBoth ∷ way) = TreeStep.Passes ∷ new_steps way
new_steps (Move.SkipsBoth ∷ way) = new_steps way
new_steps (Move.Gives change ∷ way) = new_steps way

-- ---- a walk

-- A walk: the version of both trees, what it keeps of each, whether a call failed, and what it noted,
-- where it takes notes.
pub record Walk (T U : Type 0) : Type 0 where
  pub version : Version
  pub before : Side T
  pub after : Side U
  pub stopped : Bool
  pub notes : Option Notes

-- What is left of both trees.
abbrev pub lefts_of : {T U : Type 0} → Walk T U → Lefts
lefts_of walk = record { before = left_of walk.before; after = left_of walk.after }

-- It begins at these two roots.
pub record IsBegun {T U : Type 0} (version : Version) (old new : List ℕ) (walk : Walk T U) : Type 0
  where
    pub version_is : walk.version ≡ version
    pub before : IsAtRoot old walk.before
    pub after : IsAtRoot new walk.after
    pub lefts : lefts_of walk ≡ at_roots old new
    pub goes : walk.stopped ≡ false

-- ---- what the changes say of the maps

-- The difference of the maps begins with these records.
pub record BeginsWithRecords (old new : List Pair) (records : List Record) : Type 0 where
  pub more : List Record
  pub is : IsDifference old new (records ++ more)

-- So it is of two maps, where a walk gave these changes and this is left after them: their difference
-- begins with the changes, which are all of it where nothing is left. Each tells what the old map has
-- at its key.
pub record AreChangesOf (old new : List Pair) (changes : List RootChange) (rest : Lefts) : Type 0
  where
    pub first : BeginsWithRecords old new (map record_of changes)
    pub all : IsAtEnd rest.before → IsAtEnd rest.after →
        IsDifference old new (map record_of changes)
    pub before : AllByRecursion (λ change. find old (record_of change).key ≡ before_of change) changes

-- Law: what is given on a way from two roots is the difference of the maps of these roots, or how it
-- begins, whatever the bits of their trees. Or else a chunk of the trees has the reference of a
-- different chunk, which is read on the way or is one of the trees, too.
abbrev pub WalksAreRight : Type 0
WalksAreRight = (version : Version) (bits bits' : ℕ) (m m' : List Pair) (way : List Move)
    (rest : Lefts) → IsMap m → AllByRecursion IsPair m → IsMap m' → AllByRecursion IsPair m' →
    Leads version (at_roots (root_reference (sha512_cut bits) version m)
    (root_reference (sha512_cut bits') version m')) way rest →
    AreChangesOf m m' (changes_on way) rest
    ⊎ Clashing (read_on way) (chunk_bytes version bits m ++ chunk_bytes version bits' m')
