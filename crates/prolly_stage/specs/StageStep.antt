-- What a stage does with one item: its level takes it, and what that brings is sent.
use Rattle.std.specs.Prelude.{◌≡◌, List, [], ◌∷◌, ◌++◌, ◌⊎◌, Option}
use Rattle.std.specs.Option.{option_to_list}
use Rattle.prolly_entry.specs.Pair.{Pair}
use Rattle.prolly_entry.specs.Cut.{Cut}
use Rattle.prolly_tree.specs.Chunk.{Chunk}
use Rattle.prolly_chunk.specs.LeafLevel.{LeafState, LeafTakes}
use Rattle.prolly_chunk.specs.NodeLevel.{NodeState, NodeTakes}

-- The level of the leaves took a pair, and the leaf that this closed, if any, was sent behind what
-- was sent before.
abbrev pub SendsLeaf : {C : Type 0} → (C → Cut) → LeafState C → LeafState C → Pair → List Chunk →
    List Chunk → Type 0
SendsLeaf cut_of old new pair before sent =
    (closed : Option Chunk) × LeafTakes cut_of old new pair closed ×
    (sent ≡ before ++ option_to_list closed)

-- A level of nodes took an event, which was sent behind what was sent before, and then the node
-- that this closed, if any.
abbrev pub SendsNode : {C : Type 0} → (C → Cut) → NodeState C → NodeState C → Chunk → List Chunk →
    List Chunk → Type 0
SendsNode cut_of old new event before sent =
    (closed : Option Chunk) × NodeTakes cut_of old new event closed ×
    (sent ≡ before ++ event ∷ option_to_list closed)

-- Memory was refused on the way: nothing was sent, or the event without the node that it closed.
abbrev pub SendsNodeInPart : {C : Type 0} → (C → Cut) → NodeState C → NodeState C → Chunk →
    List Chunk → List Chunk → Type 0
SendsNodeInPart cut_of old new event before sent =
    (sent ≡ before)
    ⊎ ((closed : Option Chunk) × NodeTakes cut_of old new event closed ×
    (sent ≡ before ++ event ∷ []))
