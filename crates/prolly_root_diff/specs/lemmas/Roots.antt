-- Walks that begin at a root.
use Rattle.std.proofs.Common.{◌≡◌, ◌⊎◌, ℕ, inl, inr, List, [], ◌∷◌, Option, refl, sym, ap, subst}
use Rattle.prolly_look_up.specs.Content.{Content}
use Rattle.prolly_entry.specs.Cut.{sha512_cut}
use Rattle.prolly_entry.specs.lemmas.Lists.{no_cons}
use Rattle.prolly_entry.specs.declared.version.Version.{Version}
use Rattle.prolly_tree.specs.File.{root_reference}
use Rattle.prolly_root.specs.ChunkFile.{ChunkFile, IsLawful, chunk_file}
use Rattle.prolly_root.specs.RootFault.{MayFail}
use Rattle.prolly_root.specs.declared.root_fault.RootFault.{RootFault}
use Rattle.prolly_root_diff.specs.DueTrees.{IsAtRoot, IsWholeTree, all_due}
use Rattle.prolly_root_diff.specs.FileWalks.{IsWalkFault, IsWalked, StopsInNew, StopsInOld}
use Rattle.prolly_root_diff.specs.FileWalks.{WalksOn}
use Rattle.prolly_root_diff.specs.FirstFault.{ComesBy, DueAt, LawfulFilesAreWalked, MayStopWith}
use Rattle.prolly_root_diff.specs.FirstFault.{TreeStep, tree_at}
use Rattle.prolly_root_diff.specs.Places.{AllStand, StandBelow}
use Rattle.prolly_root_diff.specs.Sides.{left_of}
use Rattle.prolly_root_diff.specs.Walks.{Leads, at_roots, new_steps, old_steps}
use Rattle.prolly_root_diff.specs.declared.change.RootChange.{RootChange}
use Rattle.prolly_root_diff.specs.declared.fault.RootDiffFault.TheVariants as faults
use Rattle.prolly_root_diff.specs.declared.notes.Notes.{Notes}
use Rattle.prolly_root_diff.specs.declared.side.Side.{Side}
use Rattle.prolly_root_diff.specs.declared.siblings.Siblings.{Siblings}

-- Where the whole tree is due, it is due at the root.
pub whole_stands : {T : Type 0} (stands : ChunkFile → T → ℕ → ℕ → Type 0) (file : ChunkFile)
    (root : List ℕ) (due : List (Siblings T)) → IsWholeTree root due →
    AllStand stands file due (tree_at root)
whole_stands stands file root due w = subst (λ ss. AllStand stands file ss (tree_at root))
    (sym w.one) (
      tree_at root,
      [],
      refl,
      subst (λ p. StandBelow stands file p w.whole.next w.whole.behind.items (tree_at root))
          (sym w.top) (w.alone, ap tree_at (sym w.next)),
      refl,
    )

-- Nothing stops it in the file of a lawful content.
pub lawful_only : LawfulFilesAreWalked → {version : Version} {content : Content} → IsLawful content →
    version ≡ content.version → {root : List ℕ} →
    root ≡ root_reference (sha512_cut content.bits) content.version content.pairs →
    (steps : List TreeStep) {due : List DueAt} {fault : RootFault} →
    ComesBy version (chunk_file content) steps (tree_at root) due →
    MayStopWith version (chunk_file content) due fault → MayFail fault
lawful_only law lawful same is steps comes (inl may) = may
lawful_only law {content = content} lawful same is steps {due = due} {fault = fault} comes
    (inr stops) = absurd (law content steps due fault lawful (rw (same, is) at comes)
    (rw same at stops))

-- Where nothing is due, nothing stands due.
pub none_stands : {T : Type 0} (stands : ChunkFile → T → ℕ → ℕ → Type 0) (file : ChunkFile)
    (due : List (Siblings T)) (there : List DueAt) → all_due due ≡ [] →
    AllStand stands file due there → there ≡ []
none_stands stands file [] there none st = st
none_stands stands file (s ∷ ss) there none st = no_cons _ _ none

-- ---- walks over two trees

-- A walk that began at the roots went its way from there, in the files that the sources go over.
pub is_walked : {S T R U : Type 0} (goes_over : S → ChunkFile → Type 0)
    (stands : ChunkFile → T → ℕ → ℕ → Type 0) (goes_over' : R → ChunkFile → Type 0)
    (stands' : ChunkFile → U → ℕ → ℕ → Type 0) (version : Version) (start : S) (start' : R)
    (root root' : List ℕ) (before end : Side T) (after end' : Side U) → IsAtRoot root before →
    IsAtRoot root' after →
    (record { before = left_of before; after = left_of after }) ≡ at_roots root root' →
    (changes : List RootChange) (notes later : Option Notes) (on : WalksOn goes_over stands
    goes_over' stands' version start start' before end after end' changes notes later) →
    IsWalked (goes_over start) (goes_over' start') version root root' on.way
    (record { before = left_of end; after = left_of end' })
is_walked goes_over stands goes_over' stands' version start start' root root' before end after end'
    at_root at_root' lefts changes notes later on = record {
      lead = subst (λ l. Leads version l on.way
          (record { before = left_of end; after = left_of end' })) lefts on.lead;
      comes = λ file goes.
          let there = on.comes file (tree_at root) goes
          (whole_stands stands file root before.due.items at_root.at) in (there.0, there.1);
      comes' = λ file goes.
          let there = on.comes' file (tree_at root') goes
          (whole_stands stands' file root' after.due.items at_root'.at) in (there.0, there.1);
    }

module _ {S T R U : Type 0} (goes_over : S → ChunkFile → Type 0)
    (stands : ChunkFile → T → ℕ → ℕ → Type 0) (goes_over' : R → ChunkFile → Type 0)
    (stands' : ChunkFile → U → ℕ → ℕ → Type 0) (version : Version) (start : S) (start' : R)
    (root root' : List ℕ) (before end : Side T) (after end' : Side U) (at_root : IsAtRoot root before)
    (at_root' : IsAtRoot root' after)
    (lefts : (record { before = left_of before; after = left_of after }) ≡ at_roots root root')
    (fault : RootFault) where
  -- What stops a walk from the roots is wrong first with the two files.
  pub old_told : StopsInOld goes_over stands goes_over' stands' version start start' before end after
      end' fault → (file file' : ChunkFile) → goes_over start file → goes_over' start' file' →
      MayFail fault ⊎ IsWalkFault version file file' root root' (faults.Old fault)
  old_told s file file' goes goes' = so (s.stops file (tree_at root) goes
      (whole_stands stands file root before.due.items at_root.at))
      (s.comes' file' (tree_at root') goes'
      (whole_stands stands' file' root' after.due.items at_root'.at))
    where
      so : ((due : List DueAt) × ComesBy version file (old_steps s.way) (tree_at root) due ×
          MayStopWith version file due fault) → ((due : List DueAt) ×
          ComesBy version file' (new_steps s.way) (tree_at root') due ×
          AllStand stands' file' end'.due.items due) →
          MayFail fault ⊎ IsWalkFault version file file' root root' (faults.Old fault)
      so (due, comes, inl may) on = inl may
      so (due, comes, inr stops) on = inr (record {
        way = s.way;
        lefts = s.lefts;
        due = due;
        due' = on.0;
        walks = record {
          lead = subst (λ l. Leads version l s.way s.lefts) lefts s.lead;
          comes = comes;
          comes' = on.1;
        };
        stops = (s.onward, stops);
      })

  pub new_told : StopsInNew goes_over stands goes_over' stands' version start start' before end after
      end' fault → (file file' : ChunkFile) → goes_over start file → goes_over' start' file' →
      MayFail fault ⊎ IsWalkFault version file file' root root' (faults.New fault)
  new_told s file file' goes goes' = so (s.comes file (tree_at root) goes
      (whole_stands stands file root before.due.items at_root.at))
      (s.stops file' (tree_at root') goes'
      (whole_stands stands' file' root' after.due.items at_root'.at))
    where
      so : ((due : List DueAt) × ComesBy version file (old_steps s.way) (tree_at root) due ×
          AllStand stands file end.due.items due) → ((due : List DueAt) ×
          ComesBy version file' (new_steps s.way) (tree_at root') due ×
          MayStopWith version file' due fault) →
          MayFail fault ⊎ IsWalkFault version file file' root root' (faults.New fault)
      so on (due, comes, inl may) = inl may
      so on (due, comes, inr stops) = inr (record {
        way = s.way;
        lefts = s.lefts;
        due = on.0;
        due' = due;
        walks = record {
          lead = subst (λ l. Leads version l s.way s.lefts) lefts s.lead;
          comes = on.1;
          comes' = comes;
        };
        stops = (s.onward, stops);
      })

  pub old_lawful : LawfulFilesAreWalked → StopsInOld goes_over stands goes_over' stands' version start
      start' before end after end' fault → (content : Content) → IsLawful content →
      goes_over start (chunk_file content) → version ≡ content.version →
      root ≡ root_reference (sha512_cut content.bits) content.version content.pairs → MayFail fault
  old_lawful law s content lawful goes same is =
      let there = s.stops (chunk_file content) (tree_at root) goes
      (whole_stands stands (chunk_file content) root before.due.items at_root.at) in
      lawful_only law lawful same is (old_steps s.way) there.1 there.2

  pub new_lawful : LawfulFilesAreWalked → StopsInNew goes_over stands goes_over' stands' version start
      start' before end after end' fault → (content : Content) → IsLawful content →
      goes_over' start' (chunk_file content) → version ≡ content.version →
      root' ≡ root_reference (sha512_cut content.bits) content.version content.pairs → MayFail fault
  new_lawful law s content lawful goes same is =
      let there = s.stops (chunk_file content) (tree_at root') goes
      (whole_stands stands' (chunk_file content) root' after.due.items at_root'.at) in
      lawful_only law lawful same is (new_steps s.way) there.1 there.2
