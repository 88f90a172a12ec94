-- The steps of a walk over the leaves of a tree.
use Rattle.std.proofs.Common.{◌≡◌, ℕ, ◌<◌, List, [], ◌∷◌, ◌++◌, length, refl, Some, None}
use Rattle.std.proofs.Common.{sym, ap, ◌∙◌, arith, ◌==◌, Bool, true, false}
use Rattle.std.proofs.lemmas.Bool.Decides.{Decides-eqb}
use Rattle.std.proofs.lemmas.List.{nil_from_length}
use Rattle.prolly_look_up.specs.HeldPairs.{pairs_held}
use Rattle.prolly_look_up.specs.Kinds.{kind_of}
use Rattle.prolly_look_up.specs.Way.{level_of}
use Rattle.prolly_entry.specs.Pair.{Pair}
use Rattle.prolly_entry.specs.declared.version.Version.{Version}
use Rattle.prolly_root.specs.ChunkFile.{ChunkFile}
use Rattle.prolly_root.specs.ChunkSource.{GoesOverStill}
use Rattle.prolly_root_diff.specs.DueTrees.{IsWholeTree, ReadsFirst, all_due}
use Rattle.prolly_root_diff.specs.FirstFault.{DueAt, ReadsAt}
use Rattle.prolly_root_diff.specs.LeafWalk.{GivesNext, IsLeafRead, ReadsInFile}
use Rattle.prolly_root_diff.specs.Leaves.{LeadDown, leaves_on, with_pairs}
use Rattle.prolly_root_diff.specs.Left.{Due, Left, left_of_root, opened}
use Rattle.prolly_root_diff.specs.Places.{AllStand}
use Rattle.prolly_root_diff.specs.ToGo.{to_go, weights}
use Rattle.prolly_root_diff.specs.declared.root_leaves.LeafRead.{LeafRead}
use Rattle.prolly_root_diff.specs.declared.siblings.Siblings.{Siblings}
use Rattle.prolly_root_diff.specs.lemmas.LeafParts.{lead_on, leaves_more}
use Rattle.prolly_root_diff.specs.lemmas.WalkParts.{both_in_file, file_stays}
use Rattle.prolly_root_diff.proofs.FileSteps.{one_step}
use Rattle.prolly_root_diff.proofs.Weights.{opens_lighter}

-- By reading these chunks a walk came from the one to the other. None of them is a leaf that has
-- pairs.
pub record ReadsNodes {S T : Type 0} (goes_over : S → ChunkFile → Type 0)
    (stands : ChunkFile → T → ℕ → ℕ → Type 0) (version : Version) (source : S)
    (old new : List (Siblings T)) : Type 0 where
  pub read : List (List ℕ)
  pub lead : LeadDown version (all_due old) read (all_due new)
  pub comes : ReadsInFile goes_over stands version source read old new
  pub none : leaves_on read ≡ []

module _ {S T : Type 0} (goes_over : S → ChunkFile → Type 0)
    (stands : ChunkFile → T → ℕ → ℕ → Type 0) (version : Version) (start : S)
    (old : List (Siblings T)) where
  pub none_read : ReadsNodes goes_over stands version start old old
  none_read = record {
    read = [];
    lead = refl;
    comes = file_stays goes_over stands version start old;
    none = refl;
  }

  -- nothing is due
  pub leaves_end : (new : List (Siblings T)) →
      ReadsNodes goes_over stands version start old new → all_due new ≡ [] →
      GivesNext goes_over stands version start old None new
  leaves_end new nodes none = record {
    read = nodes.read;
    lead = nodes.lead;
    comes = nodes.comes;
    given = (nodes.none, none);
  }

  -- one chunk more was read
  module _ (source : S) (still : GoesOverStill goes_over start source) (mid new : List (Siblings T))
      (nodes : ReadsNodes goes_over stands version start old mid) (reference chunk : List ℕ)
      (reads : ReadsFirst version (all_due mid) reference chunk (all_due new))
      (there : (file : ChunkFile) (due : List DueAt) → goes_over source file →
      AllStand stands file mid due → (due' : List DueAt) × ReadsAt version file chunk due due' ×
      AllStand stands file new due') where
    one_read : LeadDown version (all_due mid) (chunk ∷ []) (all_due new)
    one_read = (
      all_due new,
      record {
        first = reads.first;
        due = reads.due;
        was = reads.was;
        reference_is = reads.named.is;
        named = reads.named;
        falls = reads.falls;
        short = reads.short;
        is = reads.is;
      },
      refl,
    )

    lead : LeadDown version (all_due old) (nodes.read ++ chunk ∷ []) (all_due new)
    lead = lead_on version (all_due old) (all_due mid) (all_due new) nodes.read (chunk ∷ [])
        nodes.lead one_read

    comes : ReadsInFile goes_over stands version start (nodes.read ++ chunk ∷ []) old new
    comes = both_in_file goes_over stands version start old source still nodes.read (chunk ∷ []) mid
        new nodes.comes (λ file due goes st. one_step stands new (there file due goes st))

    -- it holds no pairs
    pub node_read : pairs_held chunk ≡ [] → ReadsNodes goes_over stands version start old new
    node_read none = record {
      read = nodes.read ++ chunk ∷ [];
      lead = lead;
      comes = comes;
      none = leaves_more nodes.read (chunk ∷ []) ∙
          ap (λ ls. ls ++ with_pairs (pairs_held chunk ∷ [])) nodes.none ∙
          ap (λ ps. with_pairs (ps ∷ [])) none;
    }

    -- it holds some
    pub gives_leaf : (leaf : LeafRead) → leaf.chunk.items ≡ chunk → IsLeafRead version leaf →
        GivesNext goes_over stands version start old (Some leaf) new
    gives_leaf leaf is so = record {
      read = nodes.read ++ chunk ∷ [];
      lead = lead;
      comes = comes;
      given = (so, nodes.read, nodes.none, ap (λ c. nodes.read ++ c ∷ []) (sym is));
    }

-- a read makes what is due lighter
pub reads_lighter : (version : Version) (old new : List Due) (reference chunk : List ℕ) →
    ReadsFirst version old reference chunk new → weights new < weights old
reads_lighter version old new reference chunk reads =
    let to : Left = opened (level_of chunk) (kind_of version chunk) reads.due in
    let light : to_go to < to_go (record { pairs = []; due = old }) =
    opens_lighter version (record { pairs = []; due = old }) to (record {
      first = reads.first;
      due = reads.due;
      chunk = chunk;
      was = ap (λ ds. record { pairs = []; due = ds }) reads.was;
      named = reads.named;
      falls = reads.falls;
      short = reads.short;
      is = refl;
    }) in
    let e : weights new ≡ weights to.due = ap weights reads.is in
    omega (arith, light, e)

-- ---- tests

pub no_pairs : (pairs : List Pair) (empty : Bool) → empty ≡ (length pairs == 0) → empty ≡ true →
    pairs ≡ []
no_pairs pairs empty is e =
    nil_from_length pairs ((Decides-eqb (length pairs) 0).0 (sym is ∙ e))

pub some_pairs : (pairs : List Pair) (empty : Bool) → empty ≡ (length pairs == 0) →
    empty ≡ false → 0 < length pairs
some_pairs [] empty is e = cc
some_pairs (p ∷ pairs) empty is e = omega arith

-- ---- at the root

pub whole_due : {T : Type 0} (root : List ℕ) (due : List (Siblings T)) → IsWholeTree root due →
    all_due due ≡ (left_of_root root).due
whole_due root due tree = ap all_due tree.one ∙ alone tree.whole tree.next tree.alone tree.top
  where
    alone : {T : Type 0} (whole : Siblings T) → whole.next.0 ≡ root → whole.behind.items ≡ [] →
        whole.parent ≡ None → all_due (whole ∷ []) ≡ (left_of_root root).due
    alone whole next behind top = rw (next, behind, top) refl
