-- The tree of a map, and what is read of its chunks.
use Rattle.std.proofs.Common.{rules, ◌≡◌, ℕ, zero, suc, ◌<◌, inl, inr, List, [], ◌∷◌, ◌++◌, length}
use Rattle.std.proofs.Common.{sym, ap, ◌∙◌, subst, arith, map, get_or, slice_index, refl}
use Rattle.std.specs.List.{flat_map, AllByRecursion}
use Rattle.std.proofs.lemmas.List.Concat.{flat_map-append}
use Rattle.std.proofs.lemmas.Simd.{map-map}
use Rattle.prolly_entry.specs.Cut.{sha512_cut}
use Rattle.prolly_entry.specs.Keys.{Rising, KeyBelow, RisingFrom}
use Rattle.prolly_entry.specs.Pair.{Pair, IsPair}
use Rattle.prolly_entry.specs.Spelling.{pair_spelling}
use Rattle.prolly_entry.specs.declared.version.Version.{Version}
use Rattle.prolly_entry.specs.lemmas.Lists.{all_front, all_back}
use Rattle.prolly_tree.specs.Chunk.{Chunk, chunk_of, post_order, IsIn, chunks}
use Rattle.prolly_tree.specs.Split.{split}
use Rattle.prolly_tree.specs.Tree.{Tree, pairs_below, tree_of, grow, LeveledTree}
use Rattle.prolly_tree.specs.Tree.{bytes_of, child_entry, last_key}
use Rattle.prolly_tree.specs.lemmas.Maps.{Rises, rises, rises_front, rises_back}
use Rattle.prolly_tree.specs.lemmas.Maps.{Above, HasKey, above_key, above_last, has_last}
use Rattle.prolly_tree.specs.lemmas.Trees.{in_front, in_back, Full, full_pairs}
use Rattle.prolly_laws.specs.Trees.{tree_full, pairs_are}
use Rattle.prolly_tree.specs.Difference.{IsMap}
use Rattle.prolly_look_up.specs.Content.{Content, chunk_bytes}
use Rattle.prolly_look_up.specs.MapTree.{HasTree, IsTreeOf, NodeFull, child_of, TopIsRead}
use Rattle.prolly_look_up.specs.MapTree.{entries_below}
use Rattle.prolly_look_up.specs.Entries.{pairs_in, children_in}
use Rattle.prolly_look_up.specs.Kinds.{kind_of}
use Rattle.prolly_look_up.specs.Way.{entry_keys}
use Rattle.prolly_look_up.specs.Kinds.Entries.{Leaf, Node}
use Rattle.prolly_look_up.specs.lemmas.EntryLists.{as_read, children_read, leaf_pairs}
use Rattle.prolly_look_up.specs.lemmas.HeldPairs.{all_children, child_below, entries_are}
use Rattle.prolly_look_up.specs.lemmas.HeldPairs.{top_is_whole}
use Rattle.prolly_look_up.specs.lemmas.PairsFrom.{rising_is}

-- ---- the trees of a map

some_pairs : (level : ℕ) (t : Tree level) → Full level t → 0 < length (pairs_below level t)
some_pairs level t h = search (rules, full_pairs)

all_node : (level : ℕ) → ((t : Tree level) → Full level t → NodeFull level t) →
    (ts : List (Tree level)) → AllByRecursion (Full level) ts → NodeFull (suc level) ts
all_node level f [] h = tt
all_node level f (t ∷ ts) h = ((some_pairs level t h.0, f t h.0), all_node level f ts h.1)

node_full : (level : ℕ) (t : Tree level) → Full level t → NodeFull level t
node_full zero t h = tt
node_full (suc level) ts h = all_node level (node_full level) ts h.1

pub in_bytes : (c : Chunk) (cs : List Chunk) → IsIn c cs → IsIn c.bytes (map (λ c. c.bytes) cs)
in_bytes c [] h = h
in_bytes c (d ∷ cs) (inl e) = inl (ap (λ x. x.bytes) e)
in_bytes c (d ∷ cs) (inr h) = inr (in_bytes c cs h)

pub root_full : (version : Version) (bits : ℕ) (m : List Pair) →
    NodeFull (tree_of (sha512_cut bits) version m).level (tree_of (sha512_cut bits) version m).tree
unfolding split grow
root_full version bits [] = tt
root_full version bits (p ∷ m) = search (rules, node_full, tree_full)

-- The whole tree of a map is one of its chunks.
pub root_is : (version : Version) (bits : ℕ) (m : List Pair) → AllByRecursion IsPair m →
    IsMap m →
    IsTreeOf version (chunk_bytes version bits m) (tree_of (sha512_cut bits) version m).level
    (tree_of (sha512_cut bits) version m).tree
root_is version bits m lawful rising = grind (arith, pairs_are, in_bytes, root_full)

in_child : (version : Version) (level : ℕ) (before after : List (Tree level)) (t : Tree level)
    (c : Chunk) →
    IsIn c (post_order version level t) → IsIn c
    (flat_map (post_order version level) (before ++ t ∷ after))
in_child version level before after t c h = search (rules, flat_map-append, in_back, in_front)

-- What has a node has its children.
has_child : (version : Version) (chunks : List (List ℕ)) (level : ℕ)
    (before after : List (Tree level)) (t : Tree level) →
    HasTree version chunks (suc level) (before ++ t ∷ after) → HasTree version chunks level t
has_child version chunks level before after t has c h = has c (in_front c
    (flat_map (post_order version level) (before ++ t ∷ after))
    (chunk_of version (suc level) (before ++ t ∷ after) ∷ [])
    (in_child version level before after t c h))

module _ (version : Version) (chunks : List (List ℕ)) (level : ℕ) (before after : List (Tree level))
    (t : Tree level) (b : IsTreeOf version chunks (suc level) (before ++ t ∷ after)) where
  good : AllByRecursion (λ t. (0 < length (pairs_below level t)) × NodeFull level t) (t ∷ after)
  good = search (rules, all_back)

  pub child_is : IsTreeOf version chunks level t
  child_is =
      let pre = flat_map (pairs_below level) before in
      let own = pairs_below level t in
      let rest = flat_map (pairs_below level) after in
      let whole : flat_map (pairs_below level) (before ++ t ∷ after) ≡ pre ++ (own ++ rest) =
      flat_map-append (pairs_below level) before (t ∷ after) in
      record {
        has = has_child version chunks level before after t b.has;
        lawful = all_front IsPair own rest (all_back IsPair pre (own ++ rest)
            (subst (AllByRecursion IsPair) whole b.lawful));
        rising = rising_is own (rises_front own rest
            (rises_back pre (own ++ rest) (subst Rises whole
            (rises (flat_map (pairs_below level) (before ++ t ∷ after)) b.rising))));
        full = good.0.1;
      }

-- ---- the trees of a file

-- The tree of a content's map.
abbrev pub root_of : Content → LeveledTree
root_of content = tree_of (sha512_cut content.bits) content.version content.pairs

-- It has the content's pairs.
pub root_pairs : (content : Content) → pairs_below (root_of content).level (root_of content).tree ≡
    content.pairs
root_pairs content = pairs_are (sha512_cut content.bits) content.version content.pairs

-- ---- what is read of them

pub children_are : (version : Version) (level : ℕ) (ts : List (Tree level)) →
    AllByRecursion IsPair (flat_map (pairs_below level) ts) →
    children_in version (flat_map (child_entry version level) ts) ≡ map (child_of version level) ts
children_are version level ts h =
    ap (children_in version) (entries_are version level ts) ∙
    children_read version (map (child_below version level) ts) (all_children version level ts h) ∙
    map-map (as_read version) (child_below version level) ts

pub own_pairs : (leaf : List Pair) → AllByRecursion IsPair leaf →
    pairs_in (flat_map pair_spelling leaf) ≡ leaf
own_pairs leaf h = leaf_pairs (flat_map pair_spelling leaf) leaf (record { is = refl; lawful = h })

-- ---- chunks

-- The first byte of a tree's top is its level.
pub height_is : (version : Version) (level : ℕ) (t : Tree level) →
    slice_index (bytes_of version level t) 0 ≡ level
height_is version zero t = refl
height_is version (suc level) t = refl

-- The chunk of a number is one of the chunks.
pub is_there : (cs : List (List ℕ)) (n : ℕ) → n < length cs → IsIn (get_or cs n []) cs
is_there [] n h = absurd (omega arith)
is_there (c ∷ cs) zero h = inl refl
is_there (c ∷ cs) (suc n) h = search (rules, is_there cs n (omega arith))

-- ---- the keys of a chunk

some_last : (ps : List Pair) → 0 < length ps → HasKey (last_key ps) ps
some_last [] some = absurd (omega arith)
some_last (p ∷ ps) some = has_last p ps

module _ (version : Version) (level : ℕ) where
  abbrev tops : List (Tree level) → List (List ℕ)
  tops ts = map (λ c. c.key) (map (child_of version level) ts)

  abbrev AreFull : List (Tree level) → Type 0
  AreFull ts = AllByRecursion (λ t. (0 < length (pairs_below level t)) × NodeFull level t) ts

  -- the greatest keys below trees rise
  tops_from : (key : List ℕ) (ts : List (Tree level)) → AreFull ts →
      Above key (flat_map (pairs_below level) ts) → Rises (flat_map (pairs_below level) ts) →
      RisingFrom key (tops ts)
  tops_from key [] full above r = tt
  tops_from key (t ∷ ts) full above r =
      let own = pairs_below level t in
      let rest = flat_map (pairs_below level) ts in (
        above_key key (last_key own) own (all_front (λ p. KeyBelow key p.key) own rest above)
            (some_last own full.0.0),
        tops_from (last_key own) ts full.1 (above_last own rest full.0.0 r)
            (rises_back own rest r),
      )

  pub tops_rise : (ts : List (Tree level)) → AreFull ts →
      Rising (map (λ p. p.key) (flat_map (pairs_below level) ts)) → Rising (tops ts)
  tops_rise [] full h = tt
  tops_rise (t ∷ ts) full h = grind (arith, rises, tops_from, above_last, rises_back)

-- ---- the entries of a top

module _ (version : Version) (chunks : List (List ℕ)) where
  read_so : (level : ℕ) (t : Tree level) → IsTreeOf version chunks level t →
      kind_of version (bytes_of version level t) ≡ entries_below version level t
  read_so zero leaf b = ap Leaf (own_pairs leaf b.lawful)
  read_so (suc level) ts b = ap Node (children_are version level ts b.lawful)

  entries_rise : (level : ℕ) (t : Tree level) → IsTreeOf version chunks level t →
      Rising (entry_keys (entries_below version level t))
  entries_rise zero leaf b = b.rising
  entries_rise (suc level) ts b = tops_rise version level ts b.full b.rising

-- The top of such a tree can be read, and its entries are read of it.
pub top_is_read : (version : Version) → TopIsRead version
top_is_read version chunks level t b = (
  record {
    whole = top_is_whole version level t b.lawful;
    rising = subst (λ entries. Rising (entry_keys entries)) (sym (read_so version chunks level t b))
        (entries_rise version chunks level t b);
  },
  read_so version chunks level t b,
)
