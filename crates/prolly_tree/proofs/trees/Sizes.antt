-- How many chunks a tree has, and which pairs are below it.
use Rattle.std.proofs.Common.{◌≡◌, ℕ, zero, suc, ◌+◌, ◌*◌, ◌<◌, ◌≤◌, List, [], ◌∷◌, ◌++◌, length}
use Rattle.std.proofs.Common.{refl, sym, ap, ◌∙◌, subst, arith, append-nil}
use Rattle.std.proofs.lemmas.List.{length-append}
use Rattle.std.proofs.lemmas.List.Concat.{flat_map-append}
use Rattle.std.specs.List.{flat_map, AllByRecursion}
use Rattle.prolly_entry.specs.Pair.{Pair}
use Rattle.prolly_entry.specs.declared.version.Version.{Version}
use Rattle.prolly_entry.specs.Cut.{Cut}
use Rattle.prolly_tree.specs.Split.{split}
use Rattle.prolly_tree.specs.Tree.{Tree, grow, grow_within, nodes, child_is_boundary}
use Rattle.prolly_tree.specs.Tree.{pair_is_boundary, pairs_below, leaves, leaves_of, GrowsByNodes}
use Rattle.prolly_tree.specs.Tree.{KeepsPairs}
use Rattle.prolly_tree.specs.Leaves.{leaves_below, KeepsLeaves}
use Rattle.prolly_tree.specs.Chunk.{post_order, chunks, chunk_of, FewChunks}
use Rattle.prolly_tree.specs.lemmas.Splits.{flat}
use Rattle.prolly_tree.proofs.splits.Splits.{few_groups, split_splits}
use Rattle.prolly_tree.proofs.stages.Groups.{nodes_pairs}
use Rattle.prolly_tree.proofs.trees.Growth.{grow_one, grow_more, fewer}

some_groups : {A : Type 0} (groups : List (List A)) → 0 < length (flat groups) → 0 < length groups
some_groups [] h = h
some_groups (g ∷ gs) h = omega arith

pub count_groups : {A : Type 0} (groups : List (List A)) →
    AllByRecursion (λ g. 0 < length g) groups → length groups ≤ length (flat groups)
count_groups [] h = omega arith
count_groups (g ∷ gs) h = let first : 0 < length g = h.0 in
    let more : length gs ≤ length (flat gs) = count_groups gs h.1 in
    omega (arith, length-append g (flat gs))

module _ (cut : Cut) (version : Version) where
  grow_two : (level : ℕ) (ts : List (Tree level)) → 2 ≤ length ts →
      (grow cut version level ts ≡ grow cut version (suc level) (nodes cut version level ts)) ×
      (length (nodes cut version level ts) < length ts)
  grow_two level [] h = absurd (omega arith)
  grow_two level (t ∷ []) h = absurd (omega arith)
  grow_two level (t ∷ u ∷ ts) h = (
    grow_more cut version level t u ts,
    fewer cut version level t u ts,
  )

  pub grow_is : GrowsByNodes cut version
  grow_is = (λ level t. grow_one cut version level t, λ level ts h. grow_two level ts h)

  -- the chunks of a forest of nodes are those of the forest below, and one for each node
  nodes_size : (level : ℕ) (groups : List (List (Tree level))) →
      length (flat_map (post_order version (suc level)) groups) ≡
      length (flat_map (post_order version level) (flat groups)) + length groups
  nodes_size level [] = omega arith
  nodes_size level (g ∷ gs) =
      let below = flat_map (post_order version level) g in
      let top = chunk_of version (suc level) g ∷ [] in
      let more = flat_map (post_order version (suc level)) gs in
      let a : length ((below ++ top) ++ more) ≡ (length below + 1) + length more =
      length-append (below ++ top) more ∙ ap (λ n. n + length more) (length-append below top) in
      let b : length (flat_map (post_order version level) (flat (g ∷ gs))) ≡ length below +
      length (flat_map (post_order version level) (flat gs)) =
      ap length (flat_map-append (post_order version level) g (flat gs)) ∙
      length-append below (flat_map (post_order version level) (flat gs)) in
      let c : length more ≡ length (flat_map (post_order version level) (flat gs)) + length gs =
      nodes_size level gs in
      omega arith

  size_within : (steps level : ℕ) (ts : List (Tree level)) → 0 < length ts →
      length (post_order version (grow_within steps cut version level ts).level
      (grow_within steps cut version level ts).tree) + 2
      ≤ length (flat_map (post_order version level) ts) + 2 * length ts
  size_within steps level [] h = absurd (omega arith)
  size_within steps level (t ∷ []) h = omega (arith, length-append (post_order version level t) [])
  size_within zero level (t ∷ u ∷ ts) h = omega (
    arith,
    length-append (post_order version level t) (flat_map (post_order version level) (u ∷ ts)),
  )
  size_within (suc steps) level (t ∷ u ∷ ts) h =
      let s = split_splits (child_is_boundary cut version level) 2 (t ∷ u ∷ ts) in
      let few : 2 * length (nodes cut version level (t ∷ u ∷ ts)) ≤ suc (suc (length ts)) + 1 =
      few_groups (child_is_boundary cut version level) (t ∷ u ∷ ts) in
      let size : length (flat_map (post_order version (suc level))
      (nodes cut version level (t ∷ u ∷ ts))) ≡
      length (flat_map (post_order version level) (t ∷ u ∷ ts)) +
      length (nodes cut version level (t ∷ u ∷ ts)) =
      nodes_size level (nodes cut version level (t ∷ u ∷ ts)) ∙
      ap (λ xs. length (flat_map (post_order version level) xs) +
      length (nodes cut version level (t ∷ u ∷ ts))) s.whole in
      let some : 0 < length (nodes cut version level (t ∷ u ∷ ts)) =
      some_groups (nodes cut version level (t ∷ u ∷ ts))
      (subst (λ xs. 0 < length xs) (sym s.whole) h) in
      let r : length (post_order version (grow_within steps cut version (suc level)
      (nodes cut version level (t ∷ u ∷ ts))).level
      (grow_within steps cut version (suc level) (nodes cut version level (t ∷ u ∷ ts))).tree) +
      2
      ≤ length (flat_map (post_order version (suc level)) (nodes cut version level (t ∷ u ∷ ts))) +
      2 * length (nodes cut version level (t ∷ u ∷ ts)) =
      size_within steps (suc level) (nodes cut version level (t ∷ u ∷ ts)) some in
      omega arith

  leaf_size : (ts : List (Tree 0)) → length (flat_map (post_order version 0) ts) ≡ length ts
  leaf_size [] = refl
  leaf_size (t ∷ ts) = ap suc (leaf_size ts)

  leaf_count : (groups : List (List Pair)) (n : ℕ) → length groups ≤ n →
      length (leaves_of groups) ≤ n + 1
  leaf_count [] n h = omega arith
  leaf_count (g ∷ gs) n h = omega arith

  leaf_some : (groups : List (List Pair)) → 0 < length (leaves_of groups)
  leaf_some [] = omega arith
  leaf_some (g ∷ gs) = omega arith

  chunk_bound : (groups : List (List Pair)) (n : ℕ) → length groups ≤ n →
      3 * length (leaves_of groups) ≤ 3 * n + 3
  chunk_bound groups n h = let c : length (leaves_of groups) ≤ n + 1 = leaf_count groups n h in
      omega arith

  pub few_chunks : FewChunks cut version
  unfolding grow
  few_chunks m =
      let s = split_splits (pair_is_boundary cut) 1 m in
      let groups : length (split (pair_is_boundary cut) 1 m) ≤ length m =
      subst (λ xs. length (split (pair_is_boundary cut) 1 m) ≤ length xs) s.whole
      (count_groups (split (pair_is_boundary cut) 1 m) s.nonempty) in
      let bound : 3 * length (leaves cut m) ≤ 3 * length m + 3 =
      chunk_bound (split (pair_is_boundary cut) 1 m) (length m) groups in
      let r : length (chunks cut version m) + 2 ≤
      length (flat_map (post_order version 0) (leaves cut m)) + 2 * length (leaves cut m) =
      size_within (length (leaves cut m)) 0 (leaves cut m)
      (leaf_some (split (pair_is_boundary cut) 1 m)) in
      let l : length (flat_map (post_order version 0) (leaves cut m)) ≡ length (leaves cut m) =
      leaf_size (leaves cut m) in
      omega arith

  -- ---- the pairs below

  pairs_within : (steps level : ℕ) (ts : List (Tree level)) → length ts ≤ suc steps →
      0 < length ts →
      pairs_below (grow_within steps cut version level ts).level
      (grow_within steps cut version level ts).tree ≡ flat_map (pairs_below level) ts
  pairs_within steps level [] h k = absurd (omega arith)
  pairs_within steps level (t ∷ []) h k = sym (append-nil (pairs_below level t))
  pairs_within zero level (t ∷ u ∷ ts) h k = absurd (omega arith)
  pairs_within (suc steps) level (t ∷ u ∷ ts) h k =
      let s = split_splits (child_is_boundary cut version level) 2 (t ∷ u ∷ ts) in
      let less : length (nodes cut version level (t ∷ u ∷ ts)) < suc (suc (length ts)) =
      fewer cut version level t u ts in
      let h' : suc (suc (length ts)) ≤ suc (suc steps) = h in
      let some : 0 < length (nodes cut version level (t ∷ u ∷ ts)) =
      some_groups (nodes cut version level (t ∷ u ∷ ts))
      (subst (λ xs. 0 < length xs) (sym s.whole) k) in
      pairs_within steps (suc level) (nodes cut version level (t ∷ u ∷ ts)) (omega arith) some ∙
      nodes_pairs cut version level (t ∷ u ∷ ts)

  leaf_pairs : (m : List Pair) (groups : List (List Pair)) → flat groups ≡ m →
      flat_map (pairs_below 0) (leaves_of groups) ≡ m
  leaf_pairs m [] h = h
  leaf_pairs m (g ∷ gs) h = h

  pub pairs_are : KeepsPairs cut version
  unfolding grow
  pairs_are m = pairs_within (length (leaves cut m)) 0 (leaves cut m) (omega arith)
      (leaf_some (split (pair_is_boundary cut) 1 m))
      ∙ leaf_pairs m (split (pair_is_boundary cut) 1 m)
      (split_splits (pair_is_boundary cut) 1 m).whole

  -- ---- the leaves below

  leaves_in_nodes : (level : ℕ) (groups : List (List (Tree level))) →
      flat_map (leaves_below (suc level)) groups ≡ flat_map (leaves_below level) (flat groups)
  leaves_in_nodes level [] = refl
  leaves_in_nodes level (g ∷ gs) =
      ap (λ ls. flat_map (leaves_below level) g ++ ls) (leaves_in_nodes level gs)
      ∙ sym (flat_map-append (leaves_below level) g (flat gs))

  leaves_within : (steps level : ℕ) (ts : List (Tree level)) → length ts ≤ suc steps →
      0 < length ts →
      leaves_below (grow_within steps cut version level ts).level
      (grow_within steps cut version level ts).tree ≡ flat_map (leaves_below level) ts
  leaves_within steps level [] h k = absurd (omega arith)
  leaves_within steps level (t ∷ []) h k = sym (append-nil (leaves_below level t))
  leaves_within zero level (t ∷ u ∷ ts) h k = absurd (omega arith)
  leaves_within (suc steps) level (t ∷ u ∷ ts) h k =
      let s = split_splits (child_is_boundary cut version level) 2 (t ∷ u ∷ ts) in
      let less : length (nodes cut version level (t ∷ u ∷ ts)) < suc (suc (length ts)) =
      fewer cut version level t u ts in
      let h' : suc (suc (length ts)) ≤ suc (suc steps) = h in
      let some : 0 < length (nodes cut version level (t ∷ u ∷ ts)) =
      some_groups (nodes cut version level (t ∷ u ∷ ts))
      (subst (λ xs. 0 < length xs) (sym s.whole) k) in
      leaves_within steps (suc level) (nodes cut version level (t ∷ u ∷ ts)) (omega arith) some
      ∙ leaves_in_nodes level (nodes cut version level (t ∷ u ∷ ts))
      ∙ ap (flat_map (leaves_below level)) s.whole

  each_leaf : (ls : List (List Pair)) → flat_map (leaves_below 0) ls ≡ ls
  each_leaf [] = refl
  each_leaf (l ∷ ls) = ap (λ xs. l ∷ xs) (each_leaf ls)

  pub leaves_are : KeepsLeaves cut version
  unfolding grow
  leaves_are m = leaves_within (length (leaves cut m)) 0 (leaves cut m) (omega arith)
      (leaf_some (split (pair_is_boundary cut) 1 m)) ∙ each_leaf (leaves cut m)
