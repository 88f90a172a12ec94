-- What making the levels of a tree may come to.
use Rattle.std.specs.Prelude.{◌≡◌, ℕ, ◌<◌, List, ◌∷◌, ◌++◌, Option}
use Rattle.std.specs.Option.{option_to_list}
use Rattle.prolly_entry.specs.declared.version.Version.{Version}
use Rattle.prolly_entry.specs.Pair.{Pair}
use Rattle.prolly_entry.specs.Cut.{Cut}
use Rattle.prolly_tree.specs.Chunk.{Chunk}
use Rattle.prolly_tree.specs.Tree.{level_count}
use Rattle.prolly_chunk.specs.LeafLevel.{LeafState, LeafTakes}
use Rattle.prolly_chunk.specs.NodeLevel.{NodeState, NodeTakes}
use Rattle.prolly_file.specs.declared.scratch_build.ScratchFault.{ScratchFault}
use Rattle.prolly_file.specs.declared.scratch_build.ScratchFault.TheVariants.{Memory}
use Rattle.prolly_file.specs.declared.scratch_build.ScratchFault.TheVariants.{OutOfOrder}
use Rattle.prolly_file.specs.declared.scratch_build.ScratchFault.TheVariants.{TooTall}

-- The tree has more levels than are allowed; want of memory may come anywhere.
abbrev pub IsLevelFault : Cut → Version → List Pair → ℕ → ScratchFault → Type 0
IsLevelFault cut version pairs max_levels Memory = Unit {0}
IsLevelFault cut version pairs max_levels (OutOfOrder pair) = ⊥
IsLevelFault cut version pairs max_levels TooTall = max_levels < level_count cut version pairs

-- The level of the leaves took a pair, and the leaf that this closed, if any, was added.
abbrev pub AddsLeaf : {C : Type 0} → (C → Cut) → LeafState C → LeafState C → Pair → List Chunk →
    List Chunk → Type 0
AddsLeaf cut_of old new pair before after =
    (closed : Option Chunk) × LeafTakes cut_of old new pair closed ×
    (after ≡ before ++ option_to_list closed)

-- A level of nodes took an event, which was added, and then the node that this closed, if any.
abbrev pub AddsNode : {C : Type 0} → (C → Cut) → NodeState C → NodeState C → Chunk → List Chunk →
    List Chunk → Type 0
AddsNode cut_of old new event before after =
    (closed : Option Chunk) × NodeTakes cut_of old new event closed ×
    (after ≡ before ++ event ∷ option_to_list closed)
