-- What the workers give back that an old tree needs.
use Rattle.std.specs.Prelude.{◌≡◌, ℕ, Bool, true, false, List, [], Option}
use Rattle.prolly_entry.specs.Cut.{sha512_cut}
use Rattle.prolly_entry.specs.Pair.{Pair}
use Rattle.prolly_entry.specs.Record.{Record}
use Rattle.prolly_entry.specs.declared.version.Version.{Version}
use Rattle.prolly_tree.specs.Chunk.{Chunk}
use Rattle.prolly_link.specs.Identity.{LinkId}
use Rattle.prolly_link.specs.Views.{Receiving, Whole}
use Rattle.prolly_link.specs.Progress.{end_given, HasEnded}
use Rattle.prolly_link.specs.declared.message.End.TheVariants.{Fault}
use Rattle.prolly_root.specs.ChunkFile.{ChunkFile}
use Rattle.prolly_root.specs.ChunkSource.{GoesOverStill}
use Rattle.prolly_root.specs.declared.root_fault.RootFault.{RootFault}
use Rattle.prolly_root_diff.specs.FirstFault.{TellsLeaves}
use Rattle.prolly_apply.specs.Applied.{IsCleanBehind, SendsApplied, given, old_tree_fault}
use Rattle.prolly_apply.specs.Cutting.{AreCut}
use Rattle.prolly_apply.specs.OldLoaded.{IsOldLoaded, TellsReadsOf, load_end}

-- The leaves of an old tree were loaded into the output of this link. Of a file that the source goes
-- over it is told what is wrong first; and it has all chunks of the tree where no fault is told. A
-- failed read is told exactly where a call of the source failed. The source goes over what it went
-- over.
pub record IsOldLoadedFrom {D : Type 0} (goes_over : D → ChunkFile → Type 0) (failures : D → ℕ)
    (version : Version) (root : List ℕ) (source : D) (link : LinkId) (source' : D)
    (fault : Option RootFault) (closed : Whole (List Pair)) : Type 0 where
  pub writes : closed.link ≡ link
  pub loaded : IsOldLoaded (goes_over source) version root [] closed.items fault
  pub end_is : closed.end ≡ load_end fault
  pub first : TellsLeaves (goes_over source) version root fault
  pub reads : TellsReadsOf (failures source) (failures source') fault
  pub keeps : GoesOverStill goes_over source source'

-- Both inputs of the stage of an old tree's leaves have ended, and what it makes of them was sent, on
-- the links that it was given; or the old tree was refused, since its leaves are not cut so.
pub record IsAppliedTo (cut : ℕ) (old : Receiving (List Pair)) (changes : Receiving Record)
    (link : LinkId) (old' : Receiving (List Pair)) (changes' : Receiving Record) (refused : Bool)
    (closed : Whole Chunk) : Type 0 where
  pub reads_old : old'.link ≡ old.link
  pub reads_changes : changes'.link ≡ changes.link
  pub old_ended : HasEnded old'.progress
  pub changes_ended : HasEnded changes'.progress
  pub writes : closed.link ≡ link
  pub sends : refused ≡ false → (version : Version) → SendsApplied (sha512_cut cut) version
      old'.items (given old'.items (end_given old'.progress) changes'.items
      (end_given changes'.progress)) [] closed.items closed.end
  pub wrong : refused ≡ true → AreCut (sha512_cut cut) old'.items → ⊥
  pub refuses : refused ≡ true → closed.end ≡ Fault old_tree_fault
  pub clean : IsCleanBehind (end_given old'.progress) closed.end
