-- What the chunks of a file that were read so far say of those that must follow.
use Rattle.std.specs.List.{flat_map, AllByRecursion}
use Rattle.std.specs.Prelude.{◌≡◌, ℕ, suc, ◌+◌, ◌<◌, true, false, List, [], ◌∷◌, ◌++◌, length, map}
use Rattle.std.specs.Prelude.{take, get_or, Option, Some, None, Result, MatchResult}
use Rattle.prolly_entry.specs.Cut.{sha512_cut}
use Rattle.prolly_entry.specs.Pair.{Pair, IsPair}
use Rattle.prolly_entry.specs.Prefix.{IsPrefix}
use Rattle.prolly_entry.specs.declared.version.Version.{Version}
use Rattle.prolly_tree.specs.Chunk.{Chunk, chunk_of}
use Rattle.prolly_tree.specs.Events.{clean}
use Rattle.prolly_tree.specs.Pipeline.{pipeline_events}
use Rattle.prolly_tree.specs.lemmas.Splits.{flat}
use Rattle.prolly_chunk.specs.LeafLevel.{is_whole_leaf}
use Rattle.prolly_chunk.specs.NodeLevel.{NodeState}
use Rattle.prolly_look_up.specs.HeldPairs.{bytes_in, pairs_held}
use Rattle.prolly_check.specs.OpenLevels.{AreBehind, node_levels, sent_through}
use Rattle.prolly_check.specs.Verdict.{UnlessMemory}
use Rattle.prolly_check.specs.declared.verdict.follower.Follower.{Follower}
use Rattle.prolly_check.specs.declared.verdict.fault.CheckFault.{CheckFault}
use Rattle.prolly_check.specs.declared.verdict.fault.CheckFault.TheVariants.{NotCanonical}

-- ---- what must follow

-- Each of the leaves is whole.
abbrev pub AllWhole : ℕ → List (List Pair) → Type 0
AllWhole bits leaves = AllByRecursion (λ leaf. is_whole_leaf (sha512_cut bits) leaf ≡ true) leaves

-- The chunks of leaves.
abbrev pub leaf_chunks : Version → List (List Pair) → List Chunk
leaf_chunks version leaves = map (chunk_of version 0) leaves

-- The chunks that whole leaves make for sure, whatever follows them.
abbrev pub sent_of_leaves : ℕ → Version → List (List Pair) → List Chunk
sent_of_leaves bits version leaves = sent_through (sha512_cut bits) version 1 node_levels
    (leaf_chunks version leaves)

-- All chunks of the file of the pairs.
abbrev pub all_of : ℕ → Version → List Pair → List Chunk
all_of bits version pairs = pipeline_events node_levels (sha512_cut bits) version clean pairs

-- ---- how far the chunks have come

-- The leaves that were read are whole, the nodes that they close are read or due, and more may
-- follow.
pub record IsGoing (bits : ℕ) (version : Version) (read : List (List ℕ))
    (nodes : List (NodeState ℕ)) (due : List Chunk) : Type 0 where
  pub leaves : List (List Pair)
  pub whole : AllWhole bits leaves
  pub lawful : AllByRecursion IsPair (flat leaves)
  pub held : flat_map pairs_held read ≡ flat leaves
  pub behind : AreBehind bits version 1 nodes (leaf_chunks version leaves)
  pub many : length nodes ≡ node_levels
  pub sent : read ++ bytes_in due ≡ bytes_in (sent_of_leaves bits version leaves)
  pub none_due : flat_map pairs_held (bytes_in due) ≡ []

-- The chunk of this number shows that no leaf follows: it is a leaf that is not whole, or a node
-- that only the end of the map closes. The chunks that must follow are due.
pub record IsEnding (bits : ℕ) (version : Version) (read : List (List ℕ)) (due : List Chunk)
    (from : ℕ) : Type 0 where
  pub leaves : List (List Pair)
  pub whole : AllWhole bits leaves
  pub last : List Pair
  pub not_whole : is_whole_leaf (sha512_cut bits) last ≡ false
  pub lawful : AllByRecursion IsPair (flat leaves ++ last)
  pub held : flat_map pairs_held read ≡ flat leaves ++ last
  pub before : take from read ≡ bytes_in (sent_of_leaves bits version leaves)
  pub within : from < length read
  pub there : pairs_held (get_or read from []) ≡ last
  pub sent : read ++ bytes_in due ≡ bytes_in (all_of bits version (flat leaves ++ last))
  pub none_due : flat_map pairs_held (bytes_in due) ≡ []

-- The one or the other, by whether the end has been met.
abbrev pub FollowsIn : ℕ → Version → List (List ℕ) → List (NodeState ℕ) → List Chunk → Option ℕ →
    Type 0
FollowsIn bits version read nodes due None = IsGoing bits version read nodes due
FollowsIn bits version read nodes due (Some from) = IsEnding bits version read due from

-- The follower knows what must follow these chunks.
abbrev pub Follows : List (List ℕ) → Follower → Type 0
Follows read follower = FollowsIn follower.cut follower.version read follower.nodes.items
    follower.due.items follower.ending

-- It cuts entries, and writes children, as the other one does.
abbrev pub IsAlike : Follower → Follower → Type 0
IsAlike old new = (new.cut ≡ old.cut) × (new.version ≡ old.version)

-- ---- a chunk that is out of its place

-- Chunks begin as the others do, and the one of this number is another one there.
pub record PartsAt (wanted read : List (List ℕ)) (n : ℕ) : Type 0 where
  pub within : n < length read
  pub tail : List (List ℕ)
  pub are : wanted ≡ take n read ++ tail
  pub other : (rest : List (List ℕ)) → tail ≡ get_or read n [] ∷ rest → ⊥

-- The chunks part from those of the file of the pairs, where they hold these pairs or the first of
-- them.
abbrev pub PartsFrom : ℕ → Version → List Pair → List (List ℕ) → ℕ → Type 0
PartsFrom bits version pairs read n = PartsAt (bytes_in (all_of bits version pairs)) read n

-- The last one of these chunks shows that the one of this number is not that of the file of the
-- pairs that they hold; that the one of the other number is not that of any file of more pairs; and
-- so that no file of a map begins with them.
pub record IsOutOfPlace (bits : ℕ) (version : Version) (read : List (List ℕ)) (later : ℕ)
    (fault : CheckFault) : Type 0 where
  pub number : ℕ
  pub is : fault ≡ NotCanonical number
  pub parts : PartsFrom bits version (flat_map pairs_held read) read number
  pub parts_later : (more : List Pair) → (more ≡ [] → ⊥) →
      AllByRecursion IsPair (flat_map pairs_held read ++ more) →
      PartsFrom bits version (flat_map pairs_held read ++ more) read later
  pub none : (m : List Pair) → AllByRecursion IsPair m →
      IsPrefix read (bytes_in (all_of bits version m)) → ⊥

-- Where chunks part from the file of more pairs, if the one of this number is out of its place: at
-- the first one of the end, if the end has been met.
abbrev pub place_of_end : Option ℕ → ℕ → ℕ
place_of_end None number = number
place_of_end (Some from) number = from

-- The chunk is the next one, or out of its place, unless memory was refused.
abbrev pub TakesNext : Follower → Follower → ℕ → List ℕ → Result (Unit {0}) CheckFault → Type 0
TakesNext old new number chunk result = (read : List (List ℕ)) → number ≡ length read →
    Follows read old →
    MatchResult result (λ done. Follows (read ++ chunk ∷ []) new)
    (UnlessMemory (IsOutOfPlace old.cut old.version (read ++ chunk ∷ [])
    (place_of_end old.ending number)))

-- In the file of the pairs that the chunks hold another one follows, and the fault names its place.
pub record IsTooShort (bits : ℕ) (version : Version) (read : List (List ℕ)) (fault : CheckFault)
    : Type 0 where
  pub next : List ℕ
  pub more : List (List ℕ)
  pub are : bytes_in (all_of bits version (flat_map pairs_held read)) ≡ read ++ next ∷ more
  pub is : fault ≡ NotCanonical (length read)

-- The chunks are all of the file of the pairs that they hold; or another one must follow, unless
-- memory was refused.
abbrev pub EndsWith : Follower → ℕ → Result (Unit {0}) CheckFault → Type 0
EndsWith old number result = (read : List (List ℕ)) → number ≡ length read → Follows read old →
    MatchResult result (λ done. bytes_in (all_of old.cut old.version (flat_map pairs_held read)) ≡
    read) (UnlessMemory (IsTooShort old.cut old.version read))

-- ---- the levels of nodes

-- The levels, from this one on, took an event behind others, and what leaves the last one behind
-- what has left it before is due.
pub record PassedOn (bits : ℕ) (version : Version) (level : ℕ) (old new : List (NodeState ℕ))
    (events : List Chunk) (event : Chunk) (before after : List (List ℕ)) : Type 0 where
  pub behind : AreBehind bits version level new (events ++ event ∷ [])
  pub sent : (gone : List (List ℕ)) →
      gone ++ before ≡ bytes_in (sent_through (sha512_cut bits) version level (length old) events) →
      gone ++ after ≡ bytes_in (sent_through (sha512_cut bits) version level (length old)
      (events ++ event ∷ []))

-- So they do behind any events. (The event is of a level below.)
abbrev pub PassesOn : List (NodeState ℕ) → List (NodeState ℕ) → Chunk → List (List ℕ) →
    List (List ℕ) → Type 0
PassesOn old new event before after = (bits : ℕ) (version : Version) (level : ℕ)
    (events : List Chunk) → event.level < level → AreBehind bits version level old events →
    PassedOn bits version level old new events event before after

-- What a level closes, if it closes a node, passes those above.
abbrev pub ClosedPasses : List (NodeState ℕ) → List (NodeState ℕ) → Option Chunk → List (List ℕ) →
    List (List ℕ) → Type 0
ClosedPasses old new None before after = (new ≡ old) × (after ≡ before)
ClosedPasses old new (Some closed) before after = PassesOn old new closed before after

-- The levels, from this one on, took all events that there are, and were closed one after another;
-- what leaves the last one is due.
abbrev pub ClosesAll : List (NodeState ℕ) → List (List ℕ) → List (List ℕ) → Type 0
ClosesAll nodes before after = (bits : ℕ) (version : Version) (pairs : List Pair) (level : ℕ) →
    level + length nodes ≡ node_levels →
    AreBehind bits version (suc level) nodes
    (pipeline_events level (sha512_cut bits) version clean pairs) →
    (gone : List (List ℕ)) →
    gone ++ before ≡ bytes_in (sent_through (sha512_cut bits) version (suc level) (length nodes)
    (pipeline_events level (sha512_cut bits) version clean pairs)) →
    gone ++ after ≡ bytes_in (all_of bits version pairs)

-- The levels are closed behind whole leaves, of which these chunks were read, and what must follow
-- is due.
abbrev pub ClosesBehind : ℕ → List (NodeState ℕ) → ℕ → List (List ℕ) → Type 0
ClosesBehind bits nodes number due = (version : Version) (leaves : List (List Pair))
    (read : List (List ℕ)) → AllWhole bits leaves → length nodes ≡ node_levels →
    AreBehind bits version 1 nodes (leaf_chunks version leaves) →
    read ≡ bytes_in (sent_of_leaves bits version leaves) → number ≡ length read →
    read ++ due ≡ bytes_in (all_of bits version (flat leaves))
