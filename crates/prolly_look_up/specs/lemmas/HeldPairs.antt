-- The pairs that chunks hold.
use Rattle.std.proofs.Common.{rules, ◌≡◌, ℕ, zero, suc, ◌<◌, List, [], ◌∷◌, ◌++◌, length, map}
use Rattle.std.proofs.Common.{get_or, refl, sym, subst, arith, append-nil, drop}
use Rattle.std.specs.List.{flat_map, AllByRecursion}
use Rattle.std.proofs.lemmas.Grind.{common_steps}
use Rattle.std.proofs.lemmas.List.{map-append}
use Rattle.std.proofs.lemmas.List.Concat.{flat_map-append}
use Rattle.prolly_entry.specs.Pair.{Pair, IsPair}
use Rattle.prolly_entry.specs.Reference.{reference_of}
use Rattle.prolly_entry.specs.declared.version.Version.{Version}
use Rattle.prolly_entry.specs.lemmas.Lists.{all_front, all_back, all_append}
use Rattle.prolly_entry.specs.lemmas.Spellings.{reference_length}
use Rattle.prolly_tree.specs.Chunk.{Chunk, chunk_of, post_order}
use Rattle.prolly_tree.specs.Difference.{IsMap}
use Rattle.prolly_tree.specs.Tree.{Tree, pairs_below, greatest_key, pair_count, bytes_of}
use Rattle.prolly_tree.specs.Tree.{child_entry}
use Rattle.prolly_tree.specs.lemmas.Maps.{last_key_short}
use Rattle.prolly_laws.specs.Trees.{pairs_are}
use Rattle.prolly_look_up.specs.Entries.{Child, Holds, IsChild, entry_of, pairs_in}
use Rattle.prolly_look_up.specs.Entries.{IsWhole, AreWhole, IsNode, IsSomeLeaf, children_in}
pub use Rattle.prolly_look_up.specs.HeldPairs.{bytes_in, pairs_held}
use Rattle.prolly_look_up.specs.Content.{chunk_bytes}
use Rattle.prolly_look_up.specs.Kinds.{kind_of}
use Rattle.prolly_look_up.specs.Kinds.Entries.{Leaf, Node}
use Rattle.prolly_look_up.specs.Way.{IsOrdered}
use Rattle.prolly_look_up.specs.lemmas.ReadEntries.{leaf_pairs}

-- ---- the pairs that chunks hold

-- The pairs that a chunk holds are read from it.
pub held_is : (version : Version) (chunk : List ℕ) (held : List Pair) → Holds version chunk held →
    held ≡ pairs_held chunk
held_is version [] held h = absurd h
held_is version (zero ∷ entries) held h = sym (leaf_pairs entries held h)
held_is version (suc level ∷ entries) held h = h.none

-- They are lawful, and rise where the chunk's keys do.
pub held_lawful : (version : Version) (chunk : List ℕ) → IsWhole version chunk →
    AllByRecursion IsPair (pairs_held chunk)
held_lawful version [] whole = tt
held_lawful version (zero ∷ entries) whole = subst (AllByRecursion IsPair)
    (sym (leaf_pairs entries whole.pairs whole.holds)) whole.holds.lawful
held_lawful version (suc level ∷ entries) whole = tt

-- Those of a chunk whose keys rise are a map.
pub held_rise : (version : Version) (chunk : List ℕ) → IsOrdered version chunk →
    IsMap (pairs_held chunk)
held_rise version [] ordered = tt
held_rise version (zero ∷ entries) ordered = ordered.rising
held_rise version (suc level ∷ entries) ordered = tt

-- The bytes of two lists of chunks are those of both.
pub bytes_append : (cs ds : List Chunk) → bytes_in (cs ++ ds) ≡ bytes_in cs ++ bytes_in ds
bytes_append cs ds = map-append (λ c. c.bytes) cs ds

-- What the first byte of a whole chunk tells.
pub record IsOfPairs (version : Version) (chunk : List ℕ) : Type 0 where
  pub kind : kind_of version chunk ≡ Leaf (pairs_in (drop 1 chunk))
  pub held : pairs_held chunk ≡ pairs_in (drop 1 chunk)
  pub is : IsSomeLeaf (drop 1 chunk)

pub record IsOfChildren (version : Version) (chunk : List ℕ) : Type 0 where
  pub kind : kind_of version chunk ≡ Node (children_in version (drop 1 chunk))
  pub held : pairs_held chunk ≡ []
  pub is : IsNode version (drop 1 chunk) []

module _ (version : Version) where
  pub of_pairs : (chunk : List ℕ) → IsWhole version chunk → get_or chunk 0 0 ≡ 0 →
      IsOfPairs version chunk
  of_pairs [] w e = absurd w.holds
  of_pairs (zero ∷ entries) w e =
      record { kind = refl; held = refl; is = record { pairs = w.pairs; is = w.holds } }
  of_pairs (suc level ∷ entries) w e = absurd (omega (arith, e))

  pub of_children : (chunk : List ℕ) → IsWhole version chunk → (get_or chunk 0 0 ≡ 0 → ⊥) →
      IsOfChildren version chunk
  of_children [] w other = absurd w.holds
  of_children (zero ∷ entries) w other = absurd (other refl)
  of_children (suc level ∷ entries) w other = record {
    kind = refl;
    held = refl;
    is = record {
      children = w.holds.children;
      is = w.holds.is;
      lawful = w.holds.lawful;
      none = refl;
    };
  }

  -- Of whole chunks each is whole.
  pub each_whole : (chunks : List (List ℕ)) (number : ℕ) → AreWhole version chunks →
      number < length chunks → IsWhole version (get_or chunks number [])
  each_whole [] number w within = absurd (omega arith)
  each_whole (chunk ∷ chunks) zero w within = w.0
  each_whole (chunk ∷ chunks) (suc number) w within =
      search (rules, each_whole chunks number w.1 (omega arith))

  -- a whole chunk has a first byte
  pub some_byte : (chunk : List ℕ) → IsWhole version chunk → 0 < length chunk
  some_byte [] w = absurd w.holds
  some_byte (b ∷ entries) w = omega arith

-- ---- the chunks of a tree

-- The chunks are whole, and hold these pairs.
pub record HoldPairs (version : Version) (chunks : List (List ℕ)) (pairs : List Pair) : Type 0 where
  pub whole : AreWhole version chunks
  pub are : flat_map pairs_held chunks ≡ pairs

module _ (version : Version) where
  both : (cs ds : List (List ℕ)) (ps qs : List Pair) → HoldPairs version cs ps →
      HoldPairs version ds qs → HoldPairs version (cs ++ ds) (ps ++ qs)
  both cs ds ps qs h k = grind (arith, all_append, flat_map-append)

  abbrev pub child_below : (level : ℕ) → Tree level → Child
  child_below level t = record {
    key = greatest_key level t;
    reference = reference_of (bytes_of version level t);
    count = pair_count level t;
  }

  pub entries_are : (level : ℕ) (ts : List (Tree level)) →
      flat_map (child_entry version level) ts ≡ flat_map (entry_of version)
      (map (child_below level) ts)
  entries_are level [] = refl
  entries_are level (t ∷ ts) = search (rules, entries_are level ts)

  pub all_children : (level : ℕ) (ts : List (Tree level)) →
      AllByRecursion IsPair (flat_map (pairs_below level) ts) →
      AllByRecursion IsChild (map (child_below level) ts)
  all_children level [] h = tt
  all_children level (t ∷ ts) h = search (
    rules,
    common_steps,
    last_key_short,
    all_front,
    reference_length,
    all_back,
    all_children level ts (all_back IsPair (pairs_below level t) (flat_map (pairs_below level) ts) h),
  )

  pub top_is_whole : (level : ℕ) (t : Tree level) → AllByRecursion IsPair (pairs_below level t) →
      IsWhole version (bytes_of version level t)
  top_is_whole zero leaf h = record { pairs = leaf; holds = record { is = refl; lawful = h } }
  top_is_whole (suc level) ts h = record {
    pairs = [];
    holds = record {
      children = map (child_below level) ts;
      is = entries_are level ts;
      lawful = all_children level ts h;
      none = refl;
    };
  }

  abbrev Holding : (level : ℕ) → Tree level → Type 0
  Holding level t = AllByRecursion IsPair (pairs_below level t) →
      HoldPairs version (bytes_in (post_order version level t)) (pairs_below level t)

  all_trees : (level : ℕ) → ((t : Tree level) → Holding level t) → (ts : List (Tree level)) →
      AllByRecursion IsPair (flat_map (pairs_below level) ts) →
      HoldPairs version (bytes_in (flat_map (post_order version level) ts))
      (flat_map (pairs_below level) ts)
  all_trees level holding [] h = record { whole = tt; are = refl }
  all_trees level holding (t ∷ ts) h =
      let own = pairs_below level t in
      let rest = flat_map (pairs_below level) ts in
      subst (λ cs. HoldPairs version cs (own ++ rest))
      (sym (bytes_append (post_order version level t) (flat_map (post_order version level) ts)))
      (both (bytes_in (post_order version level t))
      (bytes_in (flat_map (post_order version level) ts)) own rest
      (holding t (all_front IsPair own rest h))
      (all_trees level holding ts (all_back IsPair own rest h)))

  pub tree_holds : (level : ℕ) (t : Tree level) → Holding level t
  tree_holds zero leaf h = grind (arith, append-nil, leaf_pairs)
  tree_holds (suc level) ts h =
      let pairs = flat_map (pairs_below level) ts in
      let below = flat_map (post_order version level) ts in
      -- a node has no pairs itself
      let own : HoldPairs version (bytes_of version (suc level) ts ∷ []) [] =
      record { whole = (top_is_whole (suc level) ts h, tt); are = refl } in
      subst (λ cs. HoldPairs version cs pairs)
      (sym (bytes_append below (chunk_of version (suc level) ts ∷ [])))
      (subst (HoldPairs version (bytes_in below ++ bytes_of version (suc level) ts ∷ []))
      (append-nil pairs)
      (both (bytes_in below) (bytes_of version (suc level) ts ∷ []) pairs []
      (all_trees level (tree_holds level) ts h) own))

-- The chunks of a map hold its pairs.
pub map_holds : (version : Version) (bits : ℕ) (pairs : List Pair) → AllByRecursion IsPair pairs →
    HoldPairs version (chunk_bytes version bits pairs) pairs
map_holds version bits pairs lawful = grind (arith, pairs_are, tree_holds)
