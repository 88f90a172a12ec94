-- Trees, their chunks and their files.
use Rattle.std.proofs.Common.{ℕ, List, ◌∷◌}
use Rattle.prolly_entry.specs.declared.version.Version.{Version}
use Rattle.prolly_entry.specs.Cut.{Cut}
use Rattle.prolly_entry.specs.Pair.{Pair}
use Rattle.prolly_tree.specs.Chunk.{chunk_of, post_order, IsIn, FewChunks, ChunksDiffer}
use Rattle.prolly_tree.specs.File.{BegunIsPrefix, FileDecidesMap, RootsTellMaps, TreesTellPairs}
use Rattle.prolly_tree.specs.Leaves.{KeepsLeaves}
use Rattle.prolly_tree.specs.Tree.{Tree, tree_of, GrowsByNodes, KeepsPairs, FewLevels}
use Rattle.prolly_tree.specs.lemmas.Trees.{Full}
use Rattle.prolly_tree.proofs.trees.Distinct as distinct
use Rattle.prolly_tree.proofs.trees.Files as files
use Rattle.prolly_tree.proofs.trees.Levels as levels
use Rattle.prolly_tree.proofs.stages.Prefixes as prefixes
use Rattle.prolly_tree.proofs.trees.Roots as roots
use Rattle.prolly_tree.proofs.trees.Sizes as sizes

-- The tree of a map that is not empty is full.
pub tree_full : (cut : Cut) (version : Version) (p : Pair) (m : List Pair) →
    Full (tree_of cut version (p ∷ m)).level (tree_of cut version (p ∷ m)).tree
tree_full = distinct.tree_full

-- The chunk of a tree's top is among its chunks.
pub top_in : (version : Version) (level : ℕ) (t : Tree level) →
    IsIn (chunk_of version level t) (post_order version level t)
top_in = roots.top_in

-- Trees grow level by level, until one is left.
pub grow_is : (cut : Cut) (version : Version) → GrowsByNodes cut version
grow_is = sizes.grow_is

-- The pairs below the tree of a map are the map.
pub pairs_are : (cut : Cut) (version : Version) → KeepsPairs cut version
pairs_are = sizes.pairs_are

-- The leaves below the tree of a map are the map's leaves.
pub leaves_are : (cut : Cut) (version : Version) → KeepsLeaves cut version
leaves_are = sizes.leaves_are

-- The tree of a map has few chunks.
pub few_chunks : (cut : Cut) (version : Version) → FewChunks cut version
few_chunks = sizes.few_chunks

-- The tree of a map has few levels.
pub few_levels : (cut : Cut) (version : Version) → FewLevels cut version
few_levels = levels.few_levels

-- The chunks of a map are all different.
pub chunks_differ : (cut : Cut) (version : Version) → ChunksDiffer cut version
chunks_differ = distinct.chunks_differ

-- What a prefix of a map has begun is a prefix of the map's file.
pub begun_is_prefix : (cut : Cut) (version : Version) → BegunIsPrefix cut version
begun_is_prefix = prefixes.begun_is_prefix

-- A file decides its version, its bits and its map.
pub file_decides : FileDecidesMap
file_decides = files.file_decides

-- Different maps with one root show two different chunks with one reference.
pub roots_tell : (version : Version) → RootsTellMaps version
roots_tell = roots.roots_tell

-- Different trees whose tops have one reference show two different chunks with one reference.
pub trees_tell : (version : Version) → TreesTellPairs version
trees_tell = roots.any_tell
