-- Where the trees of a content stand in its chunk file. (This project's format.)
use Rattle.std.specs.Prelude.{◌≡◌, ℕ, zero, suc, ◌+◌, List, [], ◌∷◌, ◌++◌, length, map}
use Rattle.std.specs.List.{flat_map}
use Rattle.prolly_look_up.specs.Content.{chunks_of, Content}
use Rattle.prolly_entry.specs.Cut.{sha512_cut}
use Rattle.prolly_entry.specs.declared.version.Version.{Version}
use Rattle.prolly_tree.specs.Chunk.{post_order}
use Rattle.prolly_tree.specs.Tree.{Tree, tree_of}

-- The level of the root of the content's tree.
abbrev pub root_level : Content → ℕ
root_level content = (tree_of (sha512_cut content.bits) content.version content.pairs).level

-- The whole tree of the content.
abbrev pub root_tree : (content : Content) → Tree (root_level content)
root_tree content = (tree_of (sha512_cut content.bits) content.version content.pairs).tree

-- The tree is the one of this number among these, counted from 0.
pub record IsChildNumber (level : ℕ) (ts : List (Tree level)) (number : ℕ) (t : Tree level) : Type 0
  where
    pub front : List (Tree level)
    pub after : List (Tree level)
    pub are : ts ≡ front ++ t ∷ after
    pub number_is : length front ≡ number

-- The chunks below the top of a tree, in the order of the file.
abbrev pub chunks_below : Version → (level : ℕ) → Tree level → List (List ℕ)
chunks_below version zero leaf = []
chunks_below version (suc level) ts =
    map (λ c. c.bytes) (flat_map (post_order version level) ts)

-- The bytes of the chunks of a tree, in the file's order.
abbrev pub chunks_of_tree : Version → (level : ℕ) → Tree level → List (List ℕ)
chunks_of_tree version level t = map (λ c. c.bytes) (post_order version level t)

-- The top of this tree is the chunk of the number, and the frames below it begin with that of the
-- chunk `from`.
pub record IsTreeAt (content : Content) (level : ℕ) (t : Tree level) (number from : ℕ) : Type 0
  where
    pub before : List (List ℕ)
    pub left : List (List ℕ)
    pub are : chunks_of content ≡ before ++ (chunks_of_tree content.version level t ++ left)
    pub from_is : from ≡ length before
    pub number_is : number ≡ length before + length (chunks_below content.version level t)
