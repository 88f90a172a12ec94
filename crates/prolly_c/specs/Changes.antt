-- Two cursors side by side, and what is between two chunk files. (This project's rules.)
use Rattle.std.specs.Borrow.{Bor}
use Rattle.std.specs.Prelude.{◌≡◌, ℕ, ◌+◌, ◌<◌, List, [], Some, None}
use Rattle.prolly_entry.specs.Pair.{Pair}
use Rattle.prolly_tree.specs.Difference.{IsDifference}
use Rattle.prolly_tree.specs.Walks.{IsFirstChange, Maps, TakesLeast}
use Rattle.prolly_c.specs.Cursor.{IsAt, weight}
use Rattle.prolly_c.specs.declared.changes.Found.{Found}
use Rattle.prolly_c.specs.declared.changes.Found.TheVariants as found
use Rattle.prolly_c.specs.declared.changes.Least.{Least}
use Rattle.prolly_c.specs.declared.changes.Least.TheVariants as least
use Rattle.prolly_c.specs.declared.cursor.Cursors.{Cursors}
use Rattle.prolly_c.specs.declared.run.Run.{Run}

-- The cursors stand before these pairs of the old file and of the new one.
pub record AreAt (old : List ℕ) (old_runs : List Run) (new : List ℕ) (new_runs : List Run)
    (cursors : Cursors) (maps : Maps) : Type 0 where
  pub old_at : IsAt old old_runs cursors.before maps.before
  pub new_at : IsAt new new_runs cursors.after maps.after

-- The pair of a key and a value that were found.
abbrev pub pair_is : Bor (List ℕ) × Bor (List ℕ) → Pair
pair_is entry = record { key = entry.0.now; value = entry.1.now }

-- What was taken of the least key of both, and where the cursors stand behind that.
abbrev pub TakesAs : List ℕ → List Run → List ℕ → List Run → Maps → Least → Type 0
TakesAs old old_runs new new_runs maps (least.Old entry behind) = (rest : Maps) ×
    TakesLeast maps (Some (pair_is entry)) None rest × AreAt old old_runs new new_runs behind rest
TakesAs old old_runs new new_runs maps (least.New entry behind) = (rest : Maps) ×
    TakesLeast maps None (Some (pair_is entry)) rest × AreAt old old_runs new new_runs behind rest
TakesAs old old_runs new new_runs maps (least.Both before after behind) = (rest : Maps) ×
    TakesLeast maps (Some (pair_is before)) (Some (pair_is after)) rest ×
    AreAt old old_runs new new_runs behind rest
TakesAs old old_runs new new_runs maps least.Neither = (maps.before ≡ []) × (maps.after ≡ [])

-- Where both have a pair, fewer bytes are left behind it.
abbrev pub IsNearer : List Run → List Run → Cursors → Least → Type 0
IsNearer old_runs new_runs at (least.Both before after behind) =
    weight old_runs behind.before + weight new_runs behind.after <
    weight old_runs at.before + weight new_runs at.after
IsNearer old_runs new_runs at _ = Unit {0}

-- The first change of two maps, and where the cursors stand behind it; or there is none.
abbrev pub IsFound : List ℕ → List Run → List ℕ → List Run → Maps → Found → Type 0
IsFound old old_runs new new_runs maps (found.Removed entry behind) = (rest : Maps) ×
    IsFirstChange maps entry.0.now (Some entry.1.now) None rest ×
    AreAt old old_runs new new_runs behind rest
IsFound old old_runs new new_runs maps (found.Added entry behind) = (rest : Maps) ×
    IsFirstChange maps entry.0.now None (Some entry.1.now) rest ×
    AreAt old old_runs new new_runs behind rest
IsFound old old_runs new new_runs maps (found.Changed entry value behind) = (rest : Maps) ×
    IsFirstChange maps entry.0.now (Some entry.1.now) (Some value.now) rest ×
    AreAt old old_runs new new_runs behind rest
IsFound old old_runs new new_runs maps found.Nothing = IsDifference maps.before maps.after []
