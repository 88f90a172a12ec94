-- Walks over trees in chunk files of any bytes, step by step.
use Rattle.std.proofs.Common.{◌≡◌, ℕ, inl, inr, List, [], ◌∷◌, ◌++◌, Option, refl, sym}
use Rattle.std.proofs.Common.{subst}
use Rattle.prolly_entry.specs.declared.version.Version.{Version}
use Rattle.prolly_root.specs.ChunkFile.{ChunkFile}
use Rattle.prolly_root.specs.ChunkSource.{GoesOverStill}
use Rattle.prolly_root.specs.declared.root_fault.RootFault.{RootFault}
use Rattle.prolly_root_diff.specs.FileWalks.{ComesInFile}
use Rattle.prolly_root_diff.specs.FileWalks.{WalksOn}
use Rattle.prolly_root_diff.specs.FirstFault.{ComesBy, DueAt, MayStopBehind, MayStopWith, ReadsAt}
use Rattle.prolly_root_diff.specs.FirstFault.{ReadsOn, TreeStep}
use Rattle.prolly_root_diff.specs.Places.{AllStand}
use Rattle.prolly_root_diff.specs.Sides.{PassesFirst, left_of}
use Rattle.prolly_root_diff.specs.Notes.{AddsNotes}
use Rattle.prolly_root_diff.specs.Walks.{IsMove, Move, changes_on, new_steps, old_steps}
use Rattle.prolly_root_diff.specs.declared.change.RootChange.{RootChange}
use Rattle.prolly_root_diff.specs.declared.notes.Notes.{Notes}
use Rattle.prolly_root_diff.specs.declared.side.Side.{Side}
use Rattle.prolly_root_diff.specs.declared.siblings.Siblings.{Siblings}
use Rattle.prolly_root_diff.specs.lemmas.WalkParts.{walks_on}
use Rattle.prolly_root_diff.proofs.Standing.{due_behind_it, first_due, put_there, was}

-- ---- one tree

-- one chunk was read
pub one_step : {T : Type 0} (stands : ChunkFile → T → ℕ → ℕ → Type 0) (due : List (Siblings T))
    {version : Version} {file : ChunkFile} {chunk : List ℕ} {old : List DueAt} →
    ((new : List DueAt) × ReadsAt version file chunk old new × AllStand stands file due new) →
    (new : List DueAt) × ComesBy version file (TreeStep.Reads chunk ∷ []) old new ×
    AllStand stands file due new
one_step stands due reads = (reads.0, (reads.0, reads.1, refl), reads.2)

-- ---- the leaves

pub stops_behind : {version : Version} {file : ChunkFile} {old last : List DueAt}
    {fault : RootFault} → ReadsOn version file old last → MayStopWith version file last fault →
    MayStopBehind version file old fault
stops_behind on (inl may) = inl may
stops_behind on (inr stops) = inr (record { last = _; on = on; stops = stops })

-- ---- a walk in one of two trees

-- what is due stays due
pub file_stays_by : {S T : Type 0} (goes_over : S → ChunkFile → Type 0)
    (stands : ChunkFile → T → ℕ → ℕ → Type 0) (version : Version) (source : S) (old new : Side T) →
    new.due ≡ old.due →
    ComesInFile goes_over stands version source [] old.due.items new.due.items
file_stays_by goes_over stands version source old new same file due goes st =
    (due, refl, subst (λ d. AllStand stands file d.items due) (sym same) st)

-- it goes on after the first subtree
pub file_passes : {S T : Type 0} (goes_over : S → ChunkFile → Type 0)
    (stands : ChunkFile → T → ℕ → ℕ → Type 0) (version : Version) (source : S) (old new : Side T) →
    PassesFirst old new →
    ComesInFile goes_over stands version source (TreeStep.Passes ∷ []) old.due.items new.due.items
file_passes goes_over stands version source old new p file due goes st = (
  due_behind_it stands version file old.due.items p.first p.others due p.was st,
  (
    first_due stands version file old.due.items p.first p.others due p.was st,
    _,
    was stands version file old.due.items p.first p.others due p.was st,
    refl,
  ),
  put_there stands version file old.due.items p.first p.others due p.was st p.first (λ ds h. h)
      new.due.items p.put,
)

-- ---- in both

module _ {S T R U : Type 0} (goes_over : S → ChunkFile → Type 0)
    (stands : ChunkFile → T → ℕ → ℕ → Type 0) (goes_over' : R → ChunkFile → Type 0)
    (stands' : ChunkFile → U → ℕ → ℕ → Type 0) (version : Version) (start source : S)
    (start' source' : R) (still : GoesOverStill goes_over start source)
    (still' : GoesOverStill goes_over' start' source') (before at : Side T) (after at' : Side U)
    (notes at_notes : Option Notes) (given : List RootChange) (on : WalksOn goes_over stands
    goes_over' stands' version start start' before at after at' given notes at_notes) where
  -- it made a move more
  pub walks_more : (move : Move) (next : Side T) (next' : Side U) (later : Option Notes) → IsMove
      version (record { before = left_of at; after = left_of at' }) move
      (record { before = left_of next; after = left_of next' }) →
      AddsNotes (move ∷ []) at_notes later →
      ComesInFile goes_over stands version source (old_steps (move ∷ [])) at.due.items
      next.due.items → ComesInFile goes_over' stands' version source' (new_steps (move ∷ []))
      at'.due.items next'.due.items → WalksOn goes_over stands goes_over' stands' version start
      start' before next after next' (given ++ changes_on (move ∷ [])) notes later
  walks_more move next next' later is noted comes comes' = walks_on goes_over stands goes_over'
      stands' version start source start' source' still still' before at after at' given notes
      at_notes on next next' (changes_on (move ∷ [])) later (record {
        way = move ∷ [];
        lead = (record { before = left_of next; after = left_of next' }, is, refl);
        gives = refl;
        noted = noted;
        comes = comes;
        comes' = comes';
      })
