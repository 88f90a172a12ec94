-- That a walk over the tree of a lawful content has no fault in its chunk file.
use Rattle.std.proofs.Common.{◌≡◌, ◌∙◌, ◌-◌, ℕ, zero, suc, inl, inr, List, [], ◌∷◌, ◌++◌, length, map}
use Rattle.std.proofs.Common.{refl, sym, ap, subst, arith, append_assoc}
use Rattle.std.specs.List.{AllByRecursion}
use Rattle.std.proofs.lemmas.List.{length-append}
use Rattle.std.proofs.lemmas.Simd.{map-map}
use Rattle.prolly_look_up.specs.Content.{chunks_of, Content}
use Rattle.prolly_look_up.specs.Kinds.{kind_of}
use Rattle.prolly_look_up.specs.MapTree.{ChildIsTree, IsTreeOf, RootIsTree, TopIsRead, child_of}
use Rattle.prolly_look_up.specs.MapTree.{entries_below}
use Rattle.prolly_entry.specs.Cut.{sha512_cut}
use Rattle.prolly_entry.specs.Reference.{reference_of}
use Rattle.prolly_entry.specs.declared.version.Version.{Version}
use Rattle.prolly_entry.specs.lemmas.Lists.{all_append}
use Rattle.prolly_entry.specs.lemmas.Overlays.{some_none}
use Rattle.prolly_tree.specs.File.{root_reference}
use Rattle.prolly_tree.specs.Tree.{Tree, bytes_of}
use Rattle.prolly_root.specs.ChunkFile.{ChunkFile, IsLawful, chunk_file, nth_in}
use Rattle.prolly_root.specs.FileTrees.{IsChildNumber, IsTreeAt}
use Rattle.prolly_root.specs.declared.root_fault.RootFault.{RootFault}
use Rattle.prolly_root.specs.lemmas.FileTrees.{StandsAmong, child_among, top_nth}
use Rattle.prolly_root.specs.lemmas.FileTrees.{top_number, tree_found}
use Rattle.prolly_root.specs.lemmas.LawfulFiles.{IsTopDue, entries_there, level_there, no_fault_there}
use Rattle.prolly_root.specs.lemmas.LawfulFiles.{no_file_fault, root_due}
use Rattle.prolly_root.specs.lemmas.FileTrees.{level_is}
use Rattle.prolly_root_diff.specs.FirstFault.{ComesBy, DueAt, IsFaultAt, IsMissing, LawfulFilesAreWalked}
use Rattle.prolly_root_diff.specs.FirstFault.{ReadsAt, Spot, IsAtSpot, StopsWith, TreeStep}
use Rattle.prolly_root_diff.specs.FirstFault.{tree_at, children_at, due_under, level_over}
use Rattle.prolly_root_diff.specs.Left.{references_in}

module _ (content : Content) (lawful : IsLawful content) (root_tree_is : RootIsTree)
    (child_tree : (version : Version) → ChildIsTree version)
    (read : (version : Version) → TopIsRead version) where
  abbrev version : Version
  version = content.version

  abbrev file : ChunkFile
  file = chunk_file content

  -- The subtree that is due is one of the content: the chunk that stands there is its top, and one
  -- does.
  record IsTreeDue (due : DueAt) : Type 0 where
    pub found : (n from : ℕ) → IsAtSpot version file due.spot n from →
        IsTopDue content due.reference (level_over due.spot) n from
    pub some : (fault : RootFault) → IsMissing version file due.spot fault → ⊥

  abbrev AllTrees : List DueAt → Type 0
  AllTrees due = AllByRecursion IsTreeDue due

  -- so is the root
  tree_due : AllTrees (tree_at (root_reference (sha512_cut content.bits) version content.pairs))
  tree_due = (
    record {
      found = λ n from there. rw (there.1, there.2) (root_due root_tree_is lawful);
      some = λ fault told. some_none fault (sym told ∙ no_file_fault lawful refl);
    },
    tt,
  )

  -- so are the children of a node
  module _ (level n from : ℕ) where
    one_less : suc level - 1 ≡ level
    one_less = omega arith

    one_due : (t : Tree level) (number : ℕ) → StandsAmong content level t from number →
        IsTreeOf version (chunks_of content) level t → IsTreeDue (record {
          reference = reference_of (bytes_of version level t);
          spot = Spot.Child (suc level) from number;
        })
    one_due t number among below = record {
      found = λ m under there. let at = rw one_less at there in record {
        level = level;
        t = t;
        below = below;
        named = refl;
        stands = tree_found among at.0 at.1;
        falls = ap suc (sym (level_is version level t));
      };
      some = λ fault missing. missing.0 (top_number among) (rw one_less (top_nth among));
    }

    children_due : (front after : List (Tree level)) →
        IsTreeOf version (chunks_of content) (suc level) (front ++ after) →
        IsTreeAt content (suc level) (front ++ after) n from → (number : ℕ) →
        length front ≡ number → AllTrees (children_at (suc level) from number
        (map (λ t. reference_of (bytes_of version level t)) after))
    children_due front [] below stands number is = tt
    children_due front (t ∷ after) below stands number is =
        let same : (front ++ t ∷ []) ++ after ≡ front ++ t ∷ after =
        append_assoc front (t ∷ []) after in
        let at : IsChildNumber level (front ++ t ∷ after) number t =
        record { front = front; after = after; are = refl; number_is = is } in (
          one_due t number (child_among stands at)
              (child_tree version (chunks_of content) level front after t below),
          children_due (front ++ t ∷ []) after
              (subst (IsTreeOf version (chunks_of content) (suc level)) (sym same) below)
              (subst (λ ts. IsTreeAt content (suc level) ts n from) (sym same) stands) (suc number)
              (omega (arith, is, length-append front (t ∷ []))),
        )

  -- ---- one step

  under_due : (level : ℕ) (t : Tree level) (n from : ℕ) →
      IsTreeOf version (chunks_of content) level t → IsTreeAt content level t n from →
      AllTrees (children_at level from 0 (references_in (entries_below version level t)))
  under_due zero t n from below stands = tt
  under_due (suc level) ts n from below stands =
      subst (λ rs. AllTrees (children_at (suc level) from 0 rs))
      (sym (map-map (λ c. c.reference) (child_of version level) ts))
      (children_due level n from [] ts below stands 0 refl)

  read_under : (due : DueAt) → IsTreeDue due → (n from : ℕ) →
      IsAtSpot version file due.spot n from → (chunk : List ℕ) → chunk ≡ nth_in file n →
      AllTrees (due_under version chunk from)
  read_under due is n from stands chunk same =
      let top = is.found n from stands in
      subst (λ c. AllTrees (due_under version c from)) (sym same)
      (subst (λ l. AllTrees (children_at l from 0 (references_in (kind_of version (nth_in file n)))))
      (sym (level_there top))
      (subst (λ entries. AllTrees (children_at top.level from 0 (references_in entries)))
      (sym (entries_there top (read version)))
      (under_due top.level top.t n from top.below top.stands)))

  reads_on : (chunk : List ℕ) (old new : List DueAt) → AllTrees old →
      ReadsAt version file chunk old new → AllTrees new
  reads_on chunk old new all r =
      let both : IsTreeDue r.first × AllTrees r.others = subst AllTrees r.was all in
      subst AllTrees (sym r.is) (all_append IsTreeDue (due_under version chunk r.from) r.others
      (read_under r.first both.0 r.number r.from r.stands chunk r.chunk_is) both.1)

  no_fault : (due : DueAt) (fault : RootFault) → IsTreeDue due →
      IsFaultAt version file due fault → ⊥
  no_fault due fault is (inl missing) = is.some fault missing
  no_fault due fault is (inr flawed) =
      no_fault_there (is.found flawed.0 flawed.1 flawed.2) (read version) fault flawed.3

  no_stop : (due : List DueAt) (fault : RootFault) → AllTrees due →
      StopsWith version file due fault → ⊥
  no_stop due fault all stops =
      let both : IsTreeDue stops.first × AllTrees stops.others = subst AllTrees stops.was all in
      no_fault stops.first fault both.0 stops.why

  -- ---- and so on

  none_on_way : (steps : List TreeStep) (old due : List DueAt) (fault : RootFault) →
      AllTrees old → ComesBy version file steps old due → StopsWith version file due fault → ⊥
  none_on_way [] old due fault all comes stops =
      no_stop due fault (subst AllTrees comes all) stops
  none_on_way (TreeStep.Reads chunk ∷ steps) old due fault all comes stops =
      none_on_way steps comes.0 due fault (reads_on chunk old comes.0 all comes.1) comes.2 stops
  none_on_way (TreeStep.Passes ∷ steps) old due fault all comes stops =
      let both : IsTreeDue comes.0 × AllTrees comes.1 = subst AllTrees comes.2 all in
      none_on_way steps comes.1 due fault both.1 comes.3 stops

pub lawful_files_are_walked : RootIsTree → ((version : Version) → ChildIsTree version) →
    ((version : Version) → TopIsRead version) → LawfulFilesAreWalked
lawful_files_are_walked root child read content steps due fault lawful comes stops =
    none_on_way content lawful root child read steps _ due fault
    (tree_due content lawful root child read) comes stops
