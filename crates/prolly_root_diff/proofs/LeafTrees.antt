-- The leaves below trees, and going down to them.
use Rattle.std.proofs.Common.{◌≡◌, ℕ, zero, suc, ◌⊎◌, inl, inr, List, [], ◌∷◌, ◌++◌}
use Rattle.std.proofs.Common.{map, refl, sym, ap, ◌∙◌, subst, append-nil}
use Rattle.std.specs.List.{flat_map, AllByRecursion}
use Rattle.prolly_entry.specs.Cut.{sha512_cut}
use Rattle.prolly_entry.specs.Pair.{Pair}
use Rattle.prolly_entry.specs.Reference.{reference_of}
use Rattle.prolly_entry.specs.declared.version.Version.{Version}
use Rattle.prolly_entry.specs.lemmas.Lists.{all_append}
use Rattle.prolly_laws.specs.Trees.{leaves_are}
use Rattle.prolly_tree.specs.Leaves.{leaves_below}
use Rattle.prolly_tree.specs.Tree.{LeveledTree, Tree, bytes_of, tree_of}
use Rattle.prolly_look_up.specs.MapTree.{ChildIsTree, IsTreeOf, RootIsTree, TopIsRead}
use Rattle.prolly_look_up.specs.MapTree.{entries_below}
use Rattle.prolly_look_up.specs.HeldPairs.{pairs_held}
use Rattle.prolly_look_up.specs.Kinds.{Entries, kind_of}
use Rattle.prolly_look_up.specs.Kinds.Entries.{Leaf, Node}
use Rattle.prolly_look_up.specs.Way.{Clash, level_of}
use Rattle.prolly_look_up.specs.lemmas.Clashes.{top_or_clash}
use Rattle.prolly_root_diff.specs.DueTrees.{due_behind}
use Rattle.prolly_root_diff.specs.Leaves.{BeginWith, LeavesBeginAtRoot}
use Rattle.prolly_root_diff.specs.Leaves.{LeavesOpenFirst, leaves_of_trees, with_pairs}
use Rattle.prolly_root_diff.specs.Left.{Due, opened, tops_of}
use Rattle.prolly_root_diff.specs.lemmas.LeafParts.{with_more}
use Rattle.prolly_root_diff.proofs.Opening.{children_each, leveled, leveled_all, leveled_tops}

pub leaves_begin : RootIsTree → LeavesBeginAtRoot
leaves_begin root_is version bits m rising lawful =
    let root = tree_of (sha512_cut bits) version m in
    record {
      trees = root ∷ [];
      each = (root_is version bits m lawful rising, tt);
      named = refl;
      are = ap with_pairs (sym (append-nil (leaves_below root.level root.tree) ∙
          leaves_are (sha512_cut bits) version m));
    }

-- the pairs that a chunk with these entries holds
abbrev held : Entries → List Pair
held (Leaf pairs) = pairs
held (Node children) = []

held_by : (version : Version) (chunk : List ℕ) → held (kind_of version chunk) ≡ pairs_held chunk
held_by version [] = refl
held_by version (zero ∷ entries) = refl
held_by version (suc level ∷ entries) = refl

abbrev below : List LeveledTree → List (List Pair)
below trees = flat_map (λ t. leaves_below t.level t.tree) trees

-- the chunk is that of the first tree
module _ (child_is : (version : Version) → ChildIsTree version) (version : Version)
    (cs : List (List ℕ)) (leaves : List (List Pair)) (trees : List LeveledTree)
    (each : AllByRecursion (λ t. IsTreeOf version cs t.level t.tree) trees) (due : List Due)
    (named : tops_of version trees ≡ map (λ d. d.reference) due) (n : ℕ) where
  at_top : (level : ℕ) (t : Tree level) → IsTreeOf version cs level t →
      leaves ≡ with_pairs (leaves_below level t ++ below trees) →
      BeginWith version cs leaves (held (entries_below version level t))
      (opened n (entries_below version level t) due).due
  at_top zero leaf b are = record {
    others = leaves_of_trees trees;
    are = are ∙ with_more (leaf ∷ []) (below trees);
    left = record { trees = trees; each = each; named = named; are = refl };
  }
  at_top (suc level) ts b are = record {
    others = leaves;
    are = refl;
    left = record {
      trees = leveled level ts ++ trees;
      each = all_append (λ t. IsTreeOf version cs t.level t.tree) (leveled level ts) trees
          (children_each child_is version cs level [] ts b) each;
      named = leveled_tops version level n ts trees due named;
      are = are ∙ ap with_pairs (sym (leveled_all leaves_below level ts trees));
    };
  }

pub leaves_open : ((version : Version) → ChildIsTree version) →
    ((version : Version) → TopIsRead version) → LeavesOpenFirst
leaves_open child_is top_is_read version cs leaves first due chunk left named =
    go left.trees left.each left.named left.are
  where
    go : (trees : List LeveledTree) →
        AllByRecursion (λ t. IsTreeOf version cs t.level t.tree) trees →
        tops_of version trees ≡ map (λ d. d.reference) (first ∷ due) →
        leaves ≡ leaves_of_trees trees →
        BeginWith version cs leaves (pairs_held chunk) (due_behind version chunk due)
        ⊎ Clash (chunk ∷ []) cs
    go [] each tops are = cc
    go (t ∷ trees) each tops are =
        is_top (top_or_clash version cs t.level t.tree chunk (chunk ∷ []) each.0.has (inl refl)
        (named.is ∙ sym heads))
      where
        heads : reference_of (bytes_of version t.level t.tree) ≡ first.reference
        heads = cc

        tails : tops_of version trees ≡ map (λ d. d.reference) due
        tails = cc

        is_top : (chunk ≡ bytes_of version t.level t.tree) ⊎ Clash (chunk ∷ []) cs →
            BeginWith version cs leaves (pairs_held chunk) (due_behind version chunk due)
            ⊎ Clash (chunk ∷ []) cs
        is_top (inr clash) = inr clash
        is_top (inl e) = inl (subst (λ pairs. BeginWith version cs leaves pairs
            (due_behind version chunk due)) (held_by version chunk)
            (subst (λ entries. BeginWith version cs leaves (held entries)
            (opened (level_of chunk) entries due).due)
            (sym (ap (kind_of version) e ∙ (top_is_read version cs t.level t.tree each.0).1))
            (at_top child_is version cs leaves trees each.1 due tails (level_of chunk) t.level t.tree
            each.0 are)))
