-- What was sent of the leaves of an old tree, step by step.
use Rattle.std.proofs.Common.{◌≡◌, ℕ, ◌⊎◌, inl, inr, List, [], ◌∷◌, ◌++◌, Option, Some, None, sym}
use Rattle.std.proofs.Common.{Result, Ok, Err, IfErr, OnOk, refl}
use Rattle.std.proofs.Common.{ap, ◌∙◌, subst, append-nil, append_assoc}
use Rattle.std.specs.Result.{result_err}
use Rattle.prolly_look_up.specs.HeldPairs.{pairs_held}
use Rattle.prolly_look_up.specs.Content.{chunk_bytes}
use Rattle.prolly_entry.specs.Cut.{sha512_cut}
use Rattle.prolly_entry.specs.Pair.{Pair}
use Rattle.prolly_entry.specs.Prefix.{IsPrefix}
use Rattle.prolly_entry.specs.declared.version.Version.{Version}
use Rattle.prolly_root.specs.declared.root_fault.RootFault.{RootFault}
use Rattle.prolly_root.specs.ChunkFile.{ChunkFile}
use Rattle.prolly_root.specs.ChunkSource.{GoesOverStill}
use Rattle.prolly_root_diff.specs.DueTrees.{IsWholeTree, all_due}
use Rattle.prolly_root_diff.specs.FirstFault.{DueAt, HasAllLeaves, MayStopBehind, ReadsEach}
use Rattle.prolly_root_diff.specs.FirstFault.{TellsLeaves, tree_at}
use Rattle.prolly_root_diff.specs.LeafWalk.{GivesNext}
use Rattle.prolly_root_diff.specs.Places.{AllStand}
use Rattle.prolly_root_diff.specs.Walks.{Clashing}
use Rattle.prolly_root_diff.specs.declared.siblings.Siblings.{Siblings}
use Rattle.prolly_root_diff.specs.lemmas.WalkParts.{read_both, stop_on}
use Rattle.prolly_root_diff.specs.lemmas.Roots.{none_stands, whole_stands}
use Rattle.prolly_root_diff.specs.Leaves.{AllLeavesAreRight, FirstLeavesAreRight, FoundClashIn}
use Rattle.prolly_root_diff.specs.Leaves.{LeadDown, full_leaves, leaves_on}
use Rattle.prolly_root_diff.specs.Left.{left_of_root}
use Rattle.prolly_root_diff.specs.declared.root_leaves.LeafRead.{LeafRead}
use Rattle.prolly_root_diff.specs.lemmas.LeafParts.{lead_on, leaf_given, leaves_more}
use Rattle.prolly_apply.specs.OldLoaded.{IsOldLoaded}

-- A walk from the root read these chunks so far, in each file that the source goes over, and this
-- is due. After what was sent before, the leaves among them that have pairs were sent.
pub record IsLoading {T : Type 0} (goes_over : ChunkFile → Type 0)
    (stands : ChunkFile → T → ℕ → ℕ → Type 0) (version : Version) (root : List ℕ)
    (before sent : List (List Pair)) (due : List (Siblings T)) : Type 0 where
  pub read : List (List ℕ)
  pub sent_are : sent ≡ before ++ leaves_on read
  pub lead : LeadDown version (left_of_root root).due read (all_due due)
  pub comes : (file : ChunkFile) → goes_over file → (now : List DueAt) ×
      ReadsEach version file read (tree_at root) now × AllStand stands file due now

module _ {S T : Type 0} (goes_over : S → ChunkFile → Type 0)
    (stands : ChunkFile → T → ℕ → ℕ → Type 0) (version : Version) (root : List ℕ)
    (before : List (List Pair)) (start : S) where
  pub none_yet : (due : List (Siblings T)) → IsWholeTree root due →
      all_due due ≡ (left_of_root root).due →
      IsLoading (goes_over start) stands version root before before due
  none_yet due tree is = record {
    read = [];
    sent_are = sym (append-nil before);
    lead = sym is;
    comes = λ file goes. (tree_at root, refl, whole_stands stands file root due tree);
  }

  -- ---- a call of the walk read on

  module _ (source : S) (still : GoesOverStill goes_over start source) (sent : List (List Pair))
      (due due' : List (Siblings T))
      (so : IsLoading (goes_over start) stands version root before sent due) where
    loaded_on : (sent' : List (List Pair)) (leaf : Option LeafRead)
        (g : GivesNext goes_over stands version source due leaf due') →
        sent' ≡ sent ++ leaves_on g.read →
        IsLoading (goes_over start) stands version root before sent' due'
    loaded_on sent' leaf g is = record {
      read = so.read ++ g.read;
      sent_are = is ∙ ap (λ ls. ls ++ leaves_on g.read) so.sent_are ∙
          append_assoc before (leaves_on so.read) (leaves_on g.read) ∙
          ap (λ ls. before ++ ls) (sym (leaves_more so.read g.read));
      lead = lead_on version (left_of_root root).due (all_due due) (all_due due') so.read g.read
          so.lead g.lead;
      comes = λ file goes. let on = so.comes file goes in
          let more = g.comes file on.0 (still file goes) on.2 in (
            more.0,
            read_both version file so.read g.read (tree_at root) on.0 more.0 on.1 more.1,
            more.2,
          );
    }

    -- what it gave was sent
    pub one_sent : (walked : Version) → walked ≡ version → (sent' : List (List Pair))
        (given : Option LeafRead) (leaf : LeafRead) → given ≡ Some leaf →
        GivesNext goes_over stands walked source due given due' →
        sent' ≡ sent ++ pairs_held leaf.chunk.items ∷ [] →
        IsLoading (goes_over start) stands version root before sent' due'
    one_sent walked same sent' given leaf is gives sends =
        let g = subst (λ v. GivesNext goes_over stands v source due (Some leaf) due') same
        (subst (λ l. GivesNext goes_over stands walked source due l due') is gives) in
        loaded_on sent' (Some leaf) g (sends ∙ ap (λ ls. sent ++ ls) (sym
        (ap leaves_on g.given.3 ∙ leaf_given g.given.1 leaf.chunk.items g.given.2 g.given.0.some)))

    -- no leaf is left
    pub none_more : (walked : Version) → walked ≡ version → (given : Option LeafRead) →
        given ≡ None → GivesNext goes_over stands walked source due given due' →
        IsLoading (goes_over start) stands version root before sent due' × (all_due due' ≡ [])
    none_more walked same given is gives =
        let g = subst (λ v. GivesNext goes_over stands v source due None due') same
        (subst (λ l. GivesNext goes_over stands walked source due l due') is gives) in (
          loaded_on sent None g (sym (append-nil sent) ∙ ap (λ ls. sent ++ ls) (sym g.given.0)),
          g.given.1,
        )

  -- ---- how it ends

  module _ (sent : List (List Pair)) (due : List (Siblings T))
      (so : IsLoading (goes_over start) stands version root before sent due) where
    found : (chunks : List (List ℕ)) → Clashing so.read chunks →
        FoundClashIn (goes_over start) version root chunks
    found chunks clash = record {
      read = so.read;
      due = all_due due;
      lead = so.lead;
      comes = λ file goes. let on = so.comes file goes in (on.0, on.1);
      clash = clash;
    }

    pub stopped : FirstLeavesAreRight → (fault : RootFault) →
        IsOldLoaded (goes_over start) version root before sent (Some fault)
    stopped law fault = record {
      leaves = leaves_on so.read;
      sent_are = so.sent_are;
      are = λ bits m rising lawful is. go bits m (law version bits m so.read (all_due due) rising
          lawful (subst (λ r. LeadDown version (left_of_root r).due so.read (all_due due)) is
          so.lead));
    }
      where
        go : (bits : ℕ) (m : List Pair) →
            IsPrefix (leaves_on so.read) (full_leaves (sha512_cut bits) m)
            ⊎ Clashing so.read (chunk_bytes version bits m) →
            IsPrefix (leaves_on so.read) (full_leaves (sha512_cut bits) m)
            ⊎ FoundClashIn (goes_over start) version root (chunk_bytes version bits m)
        go bits m (inl first) = inl first
        go bits m (inr clash) = inr (found (chunk_bytes version bits m) clash)

    pub all_loaded : AllLeavesAreRight → all_due due ≡ [] →
        IsOldLoaded (goes_over start) version root before sent None
    all_loaded law none = record {
      leaves = leaves_on so.read;
      sent_are = so.sent_are;
      are = λ bits m rising lawful is. go bits m (law version bits m so.read rising lawful
          (subst (λ r. LeadDown version (left_of_root r).due so.read []) is
          (subst (LeadDown version (left_of_root root).due so.read) none so.lead)));
    }
      where
        go : (bits : ℕ) (m : List Pair) → (leaves_on so.read ≡ full_leaves (sha512_cut bits) m)
            ⊎ Clashing so.read (chunk_bytes version bits m) →
            (leaves_on so.read ≡ full_leaves (sha512_cut bits) m)
            ⊎ FoundClashIn (goes_over start) version root (chunk_bytes version bits m)
        go bits m (inl all) = inl all
        go bits m (inr clash) = inr (found (chunk_bytes version bits m) clash)

    -- each file has all chunks of the tree
    pub all_read : all_due due ≡ [] → (file : ChunkFile) → goes_over start file →
        HasAllLeaves version file root
    all_read none file goes =
        let on = so.comes file goes in
        record {
          read = so.read;
          comes = subst (ReadsEach version file so.read (tree_at root))
              (none_stands stands file due on.0 none on.2) on.1;
        }

    -- a call of the walk stopped in each
    pub read_until : (source : S) → GoesOverStill goes_over start source → (walked : Version) →
        walked ≡ version → (fault : RootFault) → ((file : ChunkFile) (old : List DueAt) →
        goes_over source file → AllStand stands file due old →
        MayStopBehind walked file old fault) → (file : ChunkFile) → goes_over start file →
        MayStopBehind version file (tree_at root) fault
    read_until source still walked same fault stops file goes =
        let on = so.comes file goes in
        stop_on version file so.read (tree_at root) on.0 fault on.1
        (subst (λ v. MayStopBehind v file on.0 fault) same (stops file on.0 (still file goes) on.2))

-- before anything was read no leaf was sent
pub none_loaded : (goes_over : ChunkFile → Type 0) (version : Version) (root : List ℕ)
    (before : List (List Pair)) (fault : RootFault) →
    IsOldLoaded goes_over version root before before (Some fault)
none_loaded goes_over version root before fault = record {
  leaves = [];
  sent_are = sym (append-nil before);
  are = λ bits m rising lawful is. inl (full_leaves (sha512_cut bits) m, refl);
}

-- what is so of each fault is so of that of a call
pub of_each : {T : Type 0} (result : Result T RootFault) (P : RootFault → Type 0) →
    ((fault : RootFault) → P fault) → IfErr result P
of_each (Ok value) P each = tt
of_each (Err fault) P each = each fault

-- what is told of all leaves, and of a fault, is told of the one that there is
pub leaves_told : (goes_over : ChunkFile → Type 0) (version : Version) (root : List ℕ)
    (result : Result (Unit {0}) RootFault) (fault : Option RootFault) → fault ≡ result_err result →
    OnOk result (TellsLeaves goes_over version root None) →
    IfErr result (λ told. TellsLeaves goes_over version root (Some told)) →
    TellsLeaves goes_over version root fault
leaves_told goes_over version root (Ok done) fault is all told =
    subst (TellsLeaves goes_over version root) (sym is) all
leaves_told goes_over version root (Err f) fault is all told =
    subst (TellsLeaves goes_over version root) (sym is) told
