-- What was taken of an old tree and of changes that are laid over it.
use Rattle.std.specs.Prelude.{◌≡◌, ℕ, Bool, false, List, [], ◌∷◌, ◌++◌, Option, Some}
use Rattle.std.specs.List.{flat_map}
use Rattle.prolly_entry.specs.declared.version.Version.{Version}
use Rattle.prolly_entry.specs.Cut.{Cut}
use Rattle.prolly_entry.specs.Keys.{KeyBelow}
use Rattle.prolly_entry.specs.Overlay.{AllRising, pairs_of_change}
use Rattle.prolly_entry.specs.Pair.{Pair}
use Rattle.prolly_entry.specs.Prefix.{IsPrefix}
use Rattle.prolly_entry.specs.Record.{Record}
use Rattle.prolly_tree.specs.Chunk.{Chunk}
use Rattle.prolly_tree.specs.Events.{faulty, leaf_events}
use Rattle.prolly_tree.specs.Merge.{Input, merged_part, stop, stop_fault}
use Rattle.prolly_tree.specs.Passing.{map_input}
use Rattle.prolly_link.specs.declared.message.End.{End}
use Rattle.prolly_link.specs.declared.message.End.TheVariants.{Clean, Fault}
use Rattle.prolly_link.specs.declared.fault.RunFault.{RunFault}
use Rattle.prolly_merge.specs.Head.{Fits, in_hand}
use Rattle.prolly_merge.specs.Inputs.{fault_in, lists_of}
use Rattle.prolly_merge.specs.Places.{Place, after}
use Rattle.prolly_merge.specs.declared.heads.Head.{Head}
use Rattle.prolly_merge.specs.declared.heads.Head.TheVariants.{Ready, Ended}
use Rattle.prolly_chunk.specs.LeafLevel.{LeafState, leaf_level}
use Rattle.prolly_tree.specs.Split.{last_passes}
use Rattle.prolly_tree.specs.Tree.{pair_is_boundary}
use Rattle.prolly_apply.specs.Cutting.{NoneInside}
use Rattle.prolly_apply.specs.declared.stop.Stop.{Stop}
use Rattle.prolly_apply.specs.declared.stop.Stop.TheVariants as stops
use Rattle.prolly_apply.specs.declared.old_pairs.Coming.{Coming}
use Rattle.prolly_apply.specs.declared.old_pairs.Coming.TheVariants as comings
use Rattle.prolly_apply.specs.declared.old_pairs.Standing.{Standing}
use Rattle.prolly_apply.specs.declared.old_pairs.Standing.TheVariants as standings

-- ---- the two inputs

-- The pairs of leaves, one leaf after another.
abbrev pub pairs_of : List (List Pair) → List Pair
pairs_of leaves = flat_map (λ leaf. leaf) leaves

-- The inputs of the merge: the pairs of the old tree, and the changes.
abbrev pub both : List Pair → Option RunFault → Input RunFault → List (Input RunFault)
both m fault changes = map_input m fault ∷ changes ∷ []

-- Changes of which these were received, the last one of which is in hand.
abbrev pub at : List Record → Head → Place
at received head = record { received = received; head = head }

-- What may be left of the old tree: pairs, and its fault.
abbrev pub May : Type 1
May = List Pair → Option RunFault → Type 0

-- Anything may be left.
abbrev pub Any : May
Any m fault = Unit {0}

-- This pair is left, and whatever comes behind it.
abbrev pub From : Pair → May
From p m fault = (rest : List Pair) × (m ≡ p ∷ rest)

-- Nothing is left but this end.
abbrev pub Over : End → May
Over end m fault = (m ≡ []) × (fault ≡ fault_in end)

-- All that the old tree and the changes have given and will give, where these pairs are gone and
-- these changes were received.
abbrev pub whole : List Pair → Place → List Pair → Option RunFault → Input RunFault →
    List (Input RunFault)
whole gone place m fault more = both (gone ++ m) fault (after place.received more)

-- What of that is left.
abbrev pub left : Place → List Pair → Option RunFault → Input RunFault → List (Input RunFault)
left place m fault more = both m fault (after (in_hand place.head) more)

-- Whatever they may still give, as long as it rises, it is so of all that they will have given.
abbrev pub Whatever : List Pair → Place → May → (List Pair → Option RunFault → Input RunFault →
    List (Input RunFault) → Type 0) → Type 0
Whatever gone place may So = (m : List Pair) (fault : Option RunFault) (more : Input RunFault) →
    may m fault → Fits place.head more → AllRising (lists_of (whole gone place m fault more)) →
    So m fault more (whole gone place m fault more)

-- ---- what was taken

-- The merged part of the whole begins with the pairs, and goes on as that of what is left. The fault
-- that is named is the same.
pub record Merges (whole : List (Input RunFault)) (pairs : List Pair) (left : List (Input RunFault))
    : Type 0 where
  pub merged : merged_part whole ≡ pairs ++ merged_part left
  pub fault : stop_fault (stop whole) ≡ stop_fault (stop left)
  pub rising : AllRising (lists_of left)

-- The merged part of the whole is the pairs, and this fault is named.
pub record Stopped (whole : List (Input RunFault)) (pairs : List Pair) (fault : RunFault) : Type 0
  where
    pub merged : merged_part whole ≡ pairs
    pub fault_is : stop_fault (stop whole) ≡ Some fault

-- The level took the first pairs of the merged part, and their leaves were sent behind what was sent
-- before.
pub record Took {C : Type 0} (cut_of : C → Cut) (cut : C) (before : List Chunk) (gone : List Pair)
    (place : Place) (may : May) (level : LeafState C) (sent : List Chunk) : Type 0 where
  pub pairs : List Pair
  pub state : level ≡ leaf_level cut_of cut pairs
  pub events : (version : Version) → sent ≡ before ++ leaf_events (cut_of cut) version faulty pairs
  pub over : Whatever gone place may (λ m fault more all. Merges all pairs
      (left place m fault more))

-- These pairs, for which a worker sent the leaves, come first in the merged part.
pub record SentFirst (cut : Cut) (before : List Chunk) (gone : List Pair) (place : Place) (may : May)
    (sent : List Chunk) : Type 0 where
  pub pairs : List Pair
  pub events : (version : Version) → sent ≡ before ++ leaf_events cut version faulty pairs
  pub first : Whatever gone place may (λ m fault more all. IsPrefix pairs (merged_part all))

-- They are all of it, and this fault is named.
pub record SentAll (cut : Cut) (before : List Chunk) (gone : List Pair) (place : Place) (may : May)
    (fault : RunFault) (sent : List Chunk) : Type 0 where
  pub pairs : List Pair
  pub events : (version : Version) → sent ≡ before ++ leaf_events cut version faulty pairs
  pub all : Whatever gone place may (λ m f more all. Stopped all pairs fault)

-- Why the stage stopped: an input ended with a fault, behind which nothing is to be sent; or it has to
-- give up.
abbrev pub StopsBy : Cut → List Chunk → List Pair → Place → May → Stop → List Chunk → Type 0
StopsBy cut before gone place may (stops.Fault fault) sent =
    SentAll cut before gone place may fault sent
StopsBy cut before gone place may stops.Memory sent =
    SentFirst cut before gone place may sent

-- The leaf is one of this cut: no pair before its last one is a boundary, and the last one is, if it is
-- said to end with one.
pub record IsCutAs (ends : Bool) (leaf : List Pair) (cut : Cut) : Type 0 where
  pub inside : NoneInside cut leaf
  pub last : last_passes (pair_is_boundary cut) leaf ≡ ends

-- Of this cut the pair is a boundary, or none, as it is said.
abbrev pub IsDecided : Bool → Pair → Cut → Type 0
IsDecided is_boundary p cut = pair_is_boundary cut p ≡ is_boundary

-- Whether a pair is a boundary behind which these are left of a leaf, which ends with one or not.
abbrev pub closes_leaf : Bool → List Pair → Bool
closes_leaf ends [] = ends
closes_leaf ends (p ∷ ps) = false

-- ---- one step

-- The level took these pairs, whatever pairs came before, and sent what they bring.
pub record TakesPairs {C : Type 0} (cut_of : C → Cut) (old new : LeafState C) (pairs : List Pair)
    (sent sent' : List Chunk) : Type 0 where
  pub state : (cut : C) (past : List Pair) → old ≡ leaf_level cut_of cut past →
      new ≡ leaf_level cut_of cut (past ++ pairs)
  pub events : (cut : C) (version : Version) (past : List Pair) (before : List Chunk) →
      old ≡ leaf_level cut_of cut past →
      sent ≡ before ++ leaf_events (cut_of cut) version faulty past →
      sent' ≡ before ++ leaf_events (cut_of cut) version faulty (past ++ pairs)

-- From one time to a later one the level took these pairs of the old tree, with the changes laid
-- over them, whatever was taken before, as long as the cut is such.
abbrev pub TakesFront : {C : Type 0} → (C → Cut) → (Cut → Type 0) → List Pair → LeafState C →
    LeafState C → List Chunk → List Chunk → Head → List Record → Head → Type 0
TakesFront {C} cut_of Such front old new sent sent' head got head' = (cut : C)
    (before : List Chunk) (gone : List Pair) (received : List Record) → Such (cut_of cut) →
    Took cut_of cut before gone (at received head) Any old sent →
    Took cut_of cut before (gone ++ front) (at (received ++ got) head') Any new sent'

-- Or it stopped on the way.
abbrev pub StopsInFront : {C : Type 0} → (C → Cut) → (Cut → Type 0) → List Pair → LeafState C →
    List Chunk → Stop → List Chunk → Head → List Record → Head → Type 0
StopsInFront {C} cut_of Such front old sent stop sent' head got head' = (cut : C)
    (before : List Chunk) (gone : List Pair) (received : List Record) → Such (cut_of cut) →
    Took cut_of cut before gone (at received head) Any old sent →
    StopsBy (cut_of cut) before (gone ++ front) (at (received ++ got) head') Any stop sent'

-- Where nothing is left of the old tree, the level took all that the changes put.
abbrev pub TakesRest : {C : Type 0} → (C → Cut) → LeafState C → LeafState C → List Chunk →
    List Chunk → Head → List Record → Head → Type 0
TakesRest {C} cut_of old new sent sent' head got head' = (cut : C) (before : List Chunk)
    (gone : List Pair) (received : List Record) →
    Took cut_of cut before gone (at received head) (Over Clean) old sent →
    Took cut_of cut before gone (at (received ++ got) head') (Over Clean) new sent'

-- Or it stopped on the way.
abbrev pub StopsInRest : {C : Type 0} → (C → Cut) → LeafState C → List Chunk → Stop → List Chunk →
    Head → List Record → Head → Type 0
StopsInRest {C} cut_of old sent stop sent' head got head' = (cut : C) (before : List Chunk)
    (gone : List Pair) (received : List Record) →
    Took cut_of cut before gone (at received head) (Over Clean) old sent →
    StopsBy (cut_of cut) before gone (at (received ++ got) head') (Over Clean) stop sent'

-- A change is in hand.
abbrev pub IsChange : Head → Type 0
IsChange head = (change : Record) × (head ≡ Ready change)

-- The change in hand was taken: the level took the pair that it puts, if it puts one.
pub record TakesChange {C : Type 0} (cut_of : C → Cut) (old new : LeafState C)
    (sent sent' : List Chunk) (head : Head) : Type 0 where
  pub change : Record
  pub was : head ≡ Ready change
  pub takes : TakesPairs cut_of old new (pairs_of_change change.key change.value) sent sent'

-- ---- where a change stands

-- The changes stand behind the key: the next one is above it, or they ended clean.
abbrev pub IsBehind : List ℕ → Head → Type 0
IsBehind key (Ready r) = KeyBelow key r.key
IsBehind key (Ended end) = end ≡ Clean

-- Where the head of the changes stands beside a key.
abbrev pub Stands : List ℕ → Head → Standing → Type 0
Stands key head standings.Below = (r : Record) × (head ≡ Ready r) × KeyBelow r.key key
Stands key head standings.Same = (r : Record) × (head ≡ Ready r) × (r.key ≡ key)
Stands key head standings.Behind = IsBehind key head
Stands key head (standings.Failed fault) = head ≡ Ended (Fault fault)

-- What this head of the changes is: a change, or an end.
abbrev pub Comes : Head → Coming → Type 0
Comes head comings.Change = IsChange head
Comes head comings.Clean = head ≡ Ended Clean
Comes head (comings.Failed fault) = head ≡ Ended (Fault fault)
