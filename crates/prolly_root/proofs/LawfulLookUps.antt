-- That a look-up in the chunk file of a lawful content has no fault.
use Rattle.std.proofs.Common.{◌≡◌, ◌∙◌, ℕ, zero, suc, ◌-◌, List, [], ◌∷◌, ◌++◌, length, drop, map}
use Rattle.std.proofs.Common.{inl, inr, refl, sym, ap, subst, arith}
use Rattle.std.proofs.lemmas.List.{length-append}
use Rattle.prolly_look_up.specs.Content.{chunks_of, Content}
use Rattle.prolly_look_up.specs.Entries.{Child}
use Rattle.prolly_look_up.specs.Kinds.Entries.{Node}
use Rattle.prolly_look_up.specs.MapTree.{ChildIsTree, IsTreeOf, RootIsTree, TopIsRead, child_of}
use Rattle.prolly_look_up.specs.MapTree.{entries_below}
use Rattle.prolly_look_up.specs.Sought.{Sought}
use Rattle.prolly_look_up.specs.Way.{FallsTo, level_of}
use Rattle.prolly_entry.specs.Cut.{sha512_cut}
use Rattle.prolly_entry.specs.Reference.{reference_of}
use Rattle.prolly_entry.specs.declared.version.Version.{Version}
use Rattle.prolly_entry.specs.lemmas.Overlays.{some_none}
use Rattle.prolly_tree.specs.File.{root_reference}
use Rattle.prolly_tree.specs.Tree.{Tree, bytes_of}
use Rattle.prolly_root.specs.ChunkFile.{ChunkFile, IsLawful, chunk_file}
use Rattle.prolly_root.specs.FileTrees.{IsChildNumber, IsTreeAt}
use Rattle.prolly_root.specs.LookUpFault.{GoesOnIn, IsFirstFault, LeadsTo, Standing, StepsTo}
use Rattle.prolly_root.specs.LookUpFault.{StopsWith}
use Rattle.prolly_root.specs.LookUpFault.{at_root, chunk_of}
use Rattle.prolly_root.specs.Walk.{IsBehind, IsNth}
use Rattle.prolly_root.specs.declared.root_fault.RootFault.{RootFault}
use Rattle.prolly_root.specs.lemmas.FileTrees.{StandsAmong, child_among, level_is, top_nth}
use Rattle.prolly_root.specs.lemmas.FileTrees.{top_number, tree_found}
use Rattle.prolly_root.specs.lemmas.LawfulFiles.{IsTopDue, entries_there, level_there, no_fault_there}
use Rattle.prolly_root.specs.lemmas.LawfulFiles.{no_file_fault, root_due}

-- ---- the child of a node

-- the tree of a child of these
record HasTreeOf (version : Version) (level : ℕ) (ts : List (Tree level)) (n : ℕ) (child : Child)
    : Type 0 where
  pub t : Tree level
  pub at : IsChildNumber level ts n t
  pub is : child ≡ child_of version level t

tree_of_child : (version : Version) (level : ℕ) (ts : List (Tree level)) (before : List Child)
    (child : Child) (after : List Child) →
    map (child_of version level) ts ≡ before ++ child ∷ after →
    HasTreeOf version level ts (length before) child
tree_of_child version level [] before child after e =
    absurd (omega (arith, ap length e, length-append before (child ∷ after)))
tree_of_child version level (t ∷ ts) [] child after e = record {
  t = t;
  at = record { front = []; after = ts; are = refl; number_is = refl };
  is = cc;
}
tree_of_child version level (t ∷ ts) (b ∷ before) child after e =
    let rest = tree_of_child version level ts before child after (ap (drop 1) e) in record {
      t = rest.t;
      at = record {
        front = t ∷ rest.at.front;
        after = rest.at.after;
        are = ap (λ ys. t ∷ ys) rest.at.are;
        number_is = ap suc rest.at.number_is;
      };
      is = rest.is;
    }

-- ---- one step down

module _ (content : Content) (child_tree : ChildIsTree content.version)
    (read : TopIsRead content.version) where
  abbrev file : ChunkFile
  file = chunk_file content

  -- the chunk that is due is the top of a tree, and stands there
  abbrev StandsAtTree : Standing → Type 0
  StandsAtTree at = IsTopDue content at.reference at.above at.number at.from

  module _ (at : Standing) (s : StandsAtTree at) where
    -- the child in which the look-up goes on is the top of a tree below this one
    record GoesToTree (child : ℕ) (reference : List ℕ) : Type 0 where
      pub level : ℕ
      pub t : Tree level
      pub below : IsTreeOf content.version (chunks_of content) level t
      pub named : reference ≡ reference_of (bytes_of content.version level t)
      pub lower : level ≡ level_of (chunk_of file at) - 1
      pub high : level_of (chunk_of file at) ≡ suc (level_of (bytes_of content.version level t))
      pub among : StandsAmong content level t at.from child

    goes_to : (child : ℕ) (reference : List ℕ) (there : Sought) →
        GoesOnIn content.version (chunk_of file at) at.sought child reference there →
        GoesToTree child reference
    goes_to child reference there on = by_level s.level s.t s.below s.stands
        (sym (entries_there s read) ∙ on.are) (level_there s)
      where
        nodes : (cs ds : List Child) → Node cs ≡ Node ds → cs ≡ ds
        nodes cs ds e = cc

        by_level : (level : ℕ) (t : Tree level) →
            IsTreeOf content.version (chunks_of content) level t →
            IsTreeAt content level t at.number at.from →
            entries_below content.version level t ≡ Node (on.before ++ on.child ∷ on.after) →
            level_of (chunk_of file at) ≡ level → GoesToTree child reference
        by_level zero leaf below stands e high = absurd cc
        by_level (suc level) ts below stands e high =
            let c = tree_of_child content.version level ts on.before on.child on.after
            (nodes (map (child_of content.version level) ts) (on.before ++ on.child ∷ on.after) e)
            in
            record {
              level = level;
              t = c.t;
              below = child_tree (chunks_of content) level c.at.front c.at.after c.t
                  (subst (IsTreeOf content.version (chunks_of content) (suc level)) c.at.are below);
              named = on.reference_is ∙ ap (λ c. c.reference) c.is;
              lower = omega (arith, high);
              high = high ∙ ap suc (sym (level_is content.version level c.t));
              among = subst (StandsAmong content level c.t at.from) (sym on.number_is)
                  (child_among stands c.at);
            }

    steps_on : (next : Standing) → StepsTo content.version file at next → StandsAtTree next
    steps_on next step =
        let g = goes_to step.child next.reference next.sought step.on in record {
          level = g.level;
          t = g.t;
          below = g.below;
          named = g.named;
          stands = tree_found g.among
              (subst (λ l. IsNth file l at.from step.child next.number) (sym g.lower) step.nth)
              (subst (λ l. IsBehind file l at.from step.child next.from) (sym g.lower) step.behind);
          falls = subst (λ above. FallsTo above (bytes_of content.version g.level g.t))
              (sym step.above) g.high;
        }

    -- and nothing stops it there
    no_stop : (fault : RootFault) → StopsWith content.version file at fault → ⊥
    no_stop fault (inl flawed) = no_fault_there s read fault flawed
    no_stop fault (inr lacks) =
        let g = goes_to lacks.child lacks.reference lacks.there lacks.on in
        let n = top_number g.among in
        lacks.none n (subst (λ l. IsNth file l at.from lacks.child n) g.lower (top_nth g.among))

  -- ---- and so on

  none_on_way : (at : Standing) (steps : List Standing) (last : Standing) (fault : RootFault) →
      StandsAtTree at → LeadsTo content.version file at steps last →
      StopsWith content.version file last fault → ⊥
  none_on_way at [] last fault s leads stops =
      no_stop at s fault (subst (λ at. StopsWith content.version file at fault) (sym leads) stops)
  none_on_way at (next ∷ steps) last fault s leads stops =
      none_on_way next steps last fault (steps_on at s next leads.0) leads.1 stops

  pub no_first_fault : RootIsTree → IsLawful content → (sought : Sought) (fault : RootFault) →
      IsFirstFault content.version file
      (root_reference (sha512_cut content.bits) content.version content.pairs) sought fault → ⊥
  no_first_fault root_tree_is f sought fault (inl told) =
      some_none fault (sym told ∙ no_file_fault f refl)
  no_first_fault root_tree_is f sought fault (inr way) = none_on_way
      (at_root file (root_reference (sha512_cut content.bits) content.version content.pairs) sought)
      way.1.steps way.1.last fault (root_due root_tree_is f) way.1.leads way.1.stops
