-- Going down.
use Rattle.std.proofs.Common.{◌≡◌, ℕ, zero, suc, ◌⊎◌, inl, inr, List, [], ◌∷◌, ◌++◌}
use Rattle.std.proofs.Common.{map, refl, sym, ap, ◌∙◌, subst, append-nil, append_assoc}
use Rattle.std.specs.List.{flat_map, AllByRecursion}
use Rattle.prolly_entry.specs.Cut.{sha512_cut}
use Rattle.prolly_entry.specs.Pair.{Pair}
use Rattle.prolly_entry.specs.Reference.{reference_of}
use Rattle.prolly_entry.specs.declared.version.Version.{Version}
use Rattle.prolly_entry.specs.lemmas.Lists.{all_append}
use Rattle.prolly_laws.specs.Trees.{pairs_are}
use Rattle.prolly_tree.specs.Tree.{LeveledTree, Tree, bytes_of, pairs_below, tree_of}
use Rattle.prolly_look_up.specs.MapTree.{ChildIsTree, IsTreeOf, RootIsTree, TopIsRead, child_of}
use Rattle.prolly_look_up.specs.MapTree.{entries_below}
use Rattle.prolly_look_up.specs.Kinds.{kind_of}
use Rattle.prolly_look_up.specs.Way.{Clash}
use Rattle.prolly_look_up.specs.lemmas.Clashes.{top_or_clash}
use Rattle.prolly_root_diff.specs.Left.{BeginsAtRoot, Due, IsLeft, OpensFirst, due_of}
use Rattle.prolly_root_diff.specs.Left.{opened, pairs_of, tops_of}

pub begins_at_root : RootIsTree → BeginsAtRoot
begins_at_root root_is version bits m rising lawful =
    let root = tree_of (sha512_cut bits) version m in
    record {
      trees = root ∷ [];
      each = (root_is version bits m lawful rising, tt);
      named = refl;
      are = sym (append-nil (pairs_below root.level root.tree) ∙
          pairs_are (sha512_cut bits) version m);
    }

-- children, as trees with their level
abbrev pub leveled : (level : ℕ) → List (Tree level) → List LeveledTree
leveled level ts = map (λ t. record { level = level; tree = t }) ts

pub leveled_all : {A : Type 0} (below : (level : ℕ) → Tree level → List A) (level : ℕ)
    (ts : List (Tree level)) (trees : List LeveledTree) →
    flat_map (λ t. below t.level t.tree) (leveled level ts ++ trees) ≡
    flat_map (below level) ts ++ flat_map (λ t. below t.level t.tree) trees
leveled_all below level [] trees = refl
leveled_all below level (t ∷ ts) trees =
    ap (λ ps. below level t ++ ps) (leveled_all below level ts trees) ∙
    sym (append_assoc (below level t) (flat_map (below level) ts)
    (flat_map (λ t. below t.level t.tree) trees))

pub leveled_tops : (version : Version) (level n : ℕ) (ts : List (Tree level))
    (trees : List LeveledTree) (due : List Due) → tops_of version trees ≡ map (λ d. d.reference) due →
    tops_of version (leveled level ts ++ trees) ≡
    map (λ d. d.reference) (due_of n (map (child_of version level) ts) ++ due)
leveled_tops version level n [] trees due e = e
leveled_tops version level n (t ∷ ts) trees due e =
    ap (λ rs. reference_of (bytes_of version level t) ∷ rs)
    (leveled_tops version level n ts trees due e)

module _ (child_is : (version : Version) → ChildIsTree version) (version : Version)
    (cs : List (List ℕ)) where
  pub children_each : (level : ℕ) (before after : List (Tree level)) →
      IsTreeOf version cs (suc level) (before ++ after) →
      AllByRecursion (λ t. IsTreeOf version cs t.level t.tree) (leveled level after)
  children_each level before [] b = tt
  children_each level before (t ∷ after) b = (
    child_is version cs level before after t b,
    children_each level (before ++ t ∷ []) after
        (subst (IsTreeOf version cs (suc level)) (sym (append_assoc before (t ∷ []) after)) b),
  )

  -- the chunk is that of the first tree
  module _ (pairs : List Pair) (trees : List LeveledTree)
      (each : AllByRecursion (λ t. IsTreeOf version cs t.level t.tree) trees) (due : List Due)
      (named : tops_of version trees ≡ map (λ d. d.reference) due) (n : ℕ) where
    at_top : (level : ℕ) (t : Tree level) → IsTreeOf version cs level t →
        pairs ≡ pairs_below level t ++ pairs_of trees →
        IsLeft version cs pairs (opened n (entries_below version level t) due)
    at_top zero leaf b are = record { trees = trees; each = each; named = named; are = are }
    at_top (suc level) ts b are = record {
      trees = leveled level ts ++ trees;
      each = all_append (λ t. IsTreeOf version cs t.level t.tree) (leveled level ts) trees
          (children_each level [] ts b) each;
      named = leveled_tops version level n ts trees due named;
      are = are ∙ sym (leveled_all pairs_below level ts trees);
    }

pub opens_first : ((version : Version) → ChildIsTree version) →
    ((version : Version) → TopIsRead version) → OpensFirst
opens_first child_is top_is_read version cs pairs first due chunk level left named =
    go left.trees left.each left.named left.are
  where
    Opens : Type 0
    Opens = IsLeft version cs pairs (opened level (kind_of version chunk) due)

    go : (trees : List LeveledTree) →
        AllByRecursion (λ t. IsTreeOf version cs t.level t.tree) trees →
        tops_of version trees ≡ map (λ d. d.reference) (first ∷ due) → pairs ≡ pairs_of trees →
        IsLeft version cs pairs (opened level (kind_of version chunk) due) ⊎ Clash (chunk ∷ []) cs
    go [] each tops are = cc
    go (t ∷ trees) each tops are =
        is_top (top_or_clash version cs t.level t.tree chunk (chunk ∷ []) each.0.has (inl refl)
        (named.is ∙ sym heads))
      where
        heads : reference_of (bytes_of version t.level t.tree) ≡ first.reference
        heads = cc

        tails : tops_of version trees ≡ map (λ d. d.reference) due
        tails = cc

        is_top : (chunk ≡ bytes_of version t.level t.tree) ⊎ Clash (chunk ∷ []) cs →
            IsLeft version cs pairs (opened level (kind_of version chunk) due) ⊎
            Clash (chunk ∷ []) cs
        is_top (inr clash) = inr clash
        is_top (inl e) = inl (subst (λ entries. IsLeft version cs pairs (opened level entries due))
            (sym (ap (kind_of version) e ∙ (top_is_read version cs t.level t.tree each.0).1))
            (at_top child_is version cs pairs trees each.1 due tails level t.level t.tree each.0 are))
