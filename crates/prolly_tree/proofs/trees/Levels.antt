-- How many levels a tree has.
use Rattle.std.proofs.Common.{◌≡◌, ℕ, zero, suc, ◌+◌, ◌*◌, ◌^◌, ◌≤◌, List, [], ◌∷◌, length, subst}
use Rattle.std.proofs.Common.{arith}
use Rattle.std.proofs.Math.Nat.{pow-suc}
use Rattle.prolly_entry.specs.Pair.{Pair}
use Rattle.prolly_entry.specs.declared.version.Version.{Version}
use Rattle.prolly_entry.specs.Cut.{Cut}
use Rattle.prolly_tree.specs.Split.{split}
use Rattle.prolly_tree.specs.Tree.{Tree, grow, grow_within, nodes, child_is_boundary}
use Rattle.prolly_tree.specs.Tree.{pair_is_boundary, leaves, leaves_of, FewLevels}
use Rattle.prolly_tree.proofs.splits.Splits.{few_groups, split_splits}
use Rattle.prolly_tree.proofs.trees.Sizes.{count_groups}

halved : (n few k : ℕ) → 2 * few ≤ n + 1 → n ≤ 2 ^ suc k → few ≤ 2 ^ k
halved n few k h l = let e : 2 ^ suc k ≡ 2 ^ k * 2 = pow-suc 2 k in omega arith

some_power : (k : ℕ) → 1 ≤ 2 ^ k
some_power zero = omega arith
some_power (suc k) = let e : 2 ^ suc k ≡ 2 ^ k * 2 = pow-suc 2 k in let r : 1 ≤ 2 ^ k =
    some_power k in omega arith

module _ (cut : Cut) (version : Version) where
  level_within : (steps level : ℕ) (ts : List (Tree level)) (k : ℕ) → length ts ≤ 2 ^ k →
      (grow_within steps cut version level ts).level ≤ level + k
  level_within steps level [] k h = omega arith
  level_within steps level (t ∷ []) k h = omega arith
  level_within zero level (t ∷ u ∷ ts) k h = omega arith
  level_within (suc steps) level (t ∷ u ∷ ts) zero h =
      absurd (let h' : suc (suc (length ts)) ≤ 1 = h in omega arith)
  level_within (suc steps) level (t ∷ u ∷ ts) (suc k) h =
      let ns = nodes cut version level (t ∷ u ∷ ts) in
      let few : 2 * length ns ≤ suc (suc (length ts)) + 1 =
      few_groups (child_is_boundary cut version level) (t ∷ u ∷ ts) in
      let r : (grow_within steps cut version (suc level) ns).level ≤ suc level + k =
      level_within steps (suc level) ns k (halved (suc (suc (length ts))) (length ns) k few h)
      in
      omega arith

  leaf_count : (groups : List (List Pair)) (k : ℕ) → length groups ≤ 2 ^ k →
      length (leaves_of groups) ≤ 2 ^ k
  leaf_count [] k h = some_power k
  leaf_count (g ∷ gs) k h = h

  pub few_levels : FewLevels cut version
  unfolding grow
  few_levels m k h =
      let s = split_splits (pair_is_boundary cut) 1 m in
      let groups : length (split (pair_is_boundary cut) 1 m) ≤ length m =
      subst (λ xs. length (split (pair_is_boundary cut) 1 m) ≤ length xs) s.whole
      (count_groups (split (pair_is_boundary cut) 1 m) s.nonempty) in
      let r : (grow_within (length (leaves cut m)) cut version 0 (leaves cut m)).level ≤ 0 + k =
      level_within (length (leaves cut m)) 0 (leaves cut m) k
      (leaf_count (split (pair_is_boundary cut) 1 m) k (omega arith)) in
      omega arith
