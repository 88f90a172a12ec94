-- A walk over the leaves of a tree, from the first to the last.
use Rattle.std.proofs.Common.{◌≡◌, ℕ, ◌⊎◌, inl, inr, List, [], ◌∷◌, ◌++◌, map, refl, ap, ◌∙◌, subst}
use Rattle.std.proofs.Common.{append-nil, append_assoc, sym}
use Rattle.prolly_entry.specs.Cut.{sha512_cut}
use Rattle.prolly_entry.specs.Pair.{Pair}
use Rattle.prolly_entry.specs.Prefix.{IsPrefix}
use Rattle.prolly_entry.specs.declared.version.Version.{Version}
use Rattle.prolly_tree.specs.Tree.{LeveledTree}
use Rattle.prolly_look_up.specs.HeldPairs.{pairs_held}
use Rattle.prolly_look_up.specs.Content.{chunk_bytes}
use Rattle.prolly_look_up.specs.Way.{Clash}
use Rattle.prolly_root_diff.specs.DueTrees.{due_behind}
use Rattle.prolly_root_diff.specs.Leaves.{AllLeavesAreRight, AreLeavesLeft, BeginWith}
use Rattle.prolly_root_diff.specs.Leaves.{FirstLeavesAreRight, LeadDown, LeavesBeginAtRoot}
use Rattle.prolly_root_diff.specs.Leaves.{LeavesOpenFirst, full_leaves, leaves_of_trees, leaves_on}
use Rattle.prolly_root_diff.specs.Leaves.{with_pairs}
use Rattle.prolly_root_diff.specs.Left.{Due, tops_of}
use Rattle.prolly_root_diff.specs.Walks.{Clashing}
use Rattle.prolly_root_diff.specs.lemmas.LeafParts.{with_more}
use Rattle.prolly_root_diff.proofs.Clashes.{more_last, read_clash}

module _ (law : LeavesOpenFirst) (version : Version) (cs : List (List ℕ)) where
  -- the leaves begin with those that were read, and the others are left
  record BeginWithRead (leaves : List (List Pair)) (read : List (List ℕ)) (due : List Due)
      : Type 0 where
    pub others : List (List Pair)
    pub are : leaves ≡ leaves_on read ++ others
    pub left : AreLeavesLeft version cs others due

  reads_first : (read : List (List ℕ)) (old new : List Due) (leaves : List (List Pair)) →
      AreLeavesLeft version cs leaves old → LeadDown version old read new →
      BeginWithRead leaves read new ⊎ Clashing read cs
  reads_first [] old new leaves left same = inl (record {
    others = leaves;
    are = refl;
    left = subst (AreLeavesLeft version cs leaves) same left;
  })
  reads_first (chunk ∷ read) old new leaves left lead =
      go (law version cs leaves lead.1.first lead.1.due chunk
      (subst (AreLeavesLeft version cs leaves) lead.1.was left) lead.1.named)
      (λ others on. reads_first read lead.0 new others
      (subst (AreLeavesLeft version cs others) (sym lead.1.is) on) lead.2)
    where
      then : (b : BeginWith version cs leaves (pairs_held chunk)
          (due_behind version chunk lead.1.due)) →
          BeginWithRead b.others read new ⊎ Clashing read cs →
          BeginWithRead leaves (chunk ∷ read) new ⊎ Clashing (chunk ∷ read) cs
      then b (inl r) = inl (record {
        others = r.others;
        are = b.are ∙ ap (λ ls. with_pairs (pairs_held chunk ∷ []) ++ ls) r.are ∙
            sym (append_assoc (with_pairs (pairs_held chunk ∷ [])) (leaves_on read) r.others) ∙
            ap (λ ls. ls ++ r.others)
            (sym (with_more (pairs_held chunk ∷ []) (map pairs_held read)));
        left = r.left;
      })
      then b (inr clash) = inr (more_last (chunk ∷ []) read cs clash)

      go : BeginWith version cs leaves (pairs_held chunk) (due_behind version chunk lead.1.due)
          ⊎ Clash (chunk ∷ []) cs → ((others : List (List Pair)) →
          AreLeavesLeft version cs others (due_behind version chunk lead.1.due) →
          BeginWithRead others read new ⊎ Clashing read cs) →
          BeginWithRead leaves (chunk ∷ read) new ⊎ Clashing (chunk ∷ read) cs
      go (inl b) later = then b (later b.others b.left)
      go (inr clash) later = inr (read_clash cs cs (λ c h. h) chunk read clash)

  -- where nothing is due no leaf is left
  none_left : (leaves : List (List Pair)) → AreLeavesLeft version cs leaves [] → leaves ≡ []
  none_left leaves left = left.are ∙ no_trees left.trees left.named
    where
      no_trees : (trees : List LeveledTree) → tops_of version trees ≡ [] →
          leaves_of_trees trees ≡ []
      no_trees [] e = refl
      no_trees (t ∷ trees) e = cc

-- the leaves of a map begin so
module _ (begins : LeavesBeginAtRoot) (law : LeavesOpenFirst) where
  pub first_leaves_are_right : FirstLeavesAreRight
  first_leaves_are_right version bits m read due rising lawful lead =
      go (reads_first law version (chunk_bytes version bits m) read _ due _
      (begins version bits m rising lawful) lead)
    where
      go : BeginWithRead law version (chunk_bytes version bits m) (full_leaves (sha512_cut bits) m)
          read due ⊎ Clashing read (chunk_bytes version bits m) →
          IsPrefix (leaves_on read) (full_leaves (sha512_cut bits) m)
          ⊎ Clashing read (chunk_bytes version bits m)
      go (inl b) = inl (b.others, b.are)
      go (inr clash) = inr clash

  pub all_leaves_are_right : AllLeavesAreRight
  all_leaves_are_right version bits m read rising lawful lead =
      go (reads_first law version (chunk_bytes version bits m) read _ [] _
      (begins version bits m rising lawful) lead)
    where
      go : BeginWithRead law version (chunk_bytes version bits m) (full_leaves (sha512_cut bits) m)
          read [] ⊎ Clashing read (chunk_bytes version bits m) →
          (leaves_on read ≡ full_leaves (sha512_cut bits) m)
          ⊎ Clashing read (chunk_bytes version bits m)
      go (inl b) = inl (sym (b.are ∙ ap (λ ls. leaves_on read ++ ls)
          (none_left law version (chunk_bytes version bits m) b.others b.left) ∙
          append-nil (leaves_on read)))
      go (inr clash) = inr clash
