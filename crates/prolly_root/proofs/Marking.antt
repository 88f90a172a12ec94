-- Counting the chunks of each level on the way to the root.
use Rattle.std.proofs.Common.{◌≡◌, ℕ, zero, suc, ◌+◌, ◌<◌, ◌≤◌, inl, inr, ◌⊎◌, List, length}
use Rattle.std.proofs.Common.{get_or, replicate, set, refl, sym, ◌∙◌, subst, arith}
use Rattle.std.proofs.lemmas.Bool.{cases_eq, cases_lt}
use Rattle.std.proofs.lemmas.List.{get_or-replicate, get_or-set_same, get_or-set_other}
use Rattle.std.proofs.lemmas.List.{length-replicate, length-set}
use Rattle.prolly_root.specs.ChunkFile.{ChunkFile, nth_in}
use Rattle.prolly_look_up.specs.Way.{level_of}
use Rattle.prolly_root.specs.Marks.{AreRuns, IsRun}
use Rattle.prolly_root.specs.Walk.{IsBehind, IsFrame, IsNth}
use Rattle.prolly_root.specs.declared.file.marks.Run.{Run}
use Rattle.prolly_root.specs.declared.file.walk.Frame.{Frame}
use Rattle.prolly_root.specs.lemmas.Levels.{behind_next}
use Rattle.prolly_root.proofs.Walking.{none_more}

-- ---- one run

-- the run that begins at this number, and has none
abbrev pub fresh : ℕ → Run
fresh next = record { from = next; count = 0 }

module _ (file : ChunkFile) (level : ℕ) where
  pub is_fresh : (next : ℕ) → IsRun file next level (fresh next)
  is_fresh next = record {
    last = next;
    behind = refl;
    within = omega arith;
    none = λ n from_on below same. absurd (omega (arith, from_on, below));
  }

  nth_far : (k from n : ℕ) → IsNth file level from k n → k ≤ n
  nth_far zero from n h = omega arith
  nth_far (suc k) from n h = omega (arith, nth_far k from h.0 h.1, h.2.from_on)

  behind_far : (k from n : ℕ) → IsBehind file level from k n → k ≤ n
  behind_far zero from n h = omega arith
  behind_far (suc k) from n h = omega (arith, nth_far k from h.0 h.1, h.2)

  -- it has no more chunks than there are
  pub run_fits : (next : ℕ) (run : Run) → IsRun file next level run → run.count ≤ next
  run_fits next run is = omega (
    arith,
    behind_far run.count run.from is.last is.behind,
    is.within,
  )

  -- a chunk of another level does not count
  pub left_alone : (number : ℕ) (run : Run) → IsRun file number level run →
      (level_of (nth_in file number) ≡ level → ⊥) → IsRun file (number + 1) level run
  left_alone number run is other = record {
    last = is.last;
    behind = is.behind;
    within = omega (arith, is.within);
    none = none_more file level is.last number is.none other;
  }

-- a chunk of the level does
module _ {file : ChunkFile} {frame : Frame} (is : IsFrame file frame) {run : Run}
    (before : IsRun file frame.number frame.level run) {count : ℕ}
    (more : count ≡ run.count + 1) where
  pub one_behind : IsBehind file frame.level run.from count (frame.number + 1)
  one_behind = subst (λ k. IsBehind file frame.level run.from k (frame.number + 1)) (sym more)
      (behind_next file frame.level run.from run.count before.last frame.number
      (frame.number + 1) before.behind (record {
        from_on = before.within;
        within = is.within;
        is = sym is.level;
        none = before.none;
      }) (omega arith))

  one_counted : IsRun file (frame.number + 1) frame.level
      (record { from = run.from; count = count })
  one_counted = record {
    last = frame.number + 1;
    behind = one_behind;
    within = omega arith;
    none = λ n from_on below same. absurd (omega (arith, from_on, below));
  }

-- ---- the runs

abbrev pub run_at : List Run → ℕ → Run
run_at runs level = get_or runs level (fresh 0)

pub all_fresh : (file : ChunkFile) (next : ℕ) → AreRuns file next (replicate 32 (fresh next))
all_fresh file next = record {
  long = length-replicate 32 (fresh next);
  each = λ level within. subst (IsRun file next level)
      (sym (get_or-replicate 32 level (fresh next) (fresh 0) within)) (is_fresh file level next);
}

-- those of lower levels begin anew
pub record Begun (file : ChunkFile) (number lower : ℕ) (runs : List Run) : Type 0 where
  pub long : length runs ≡ 32
  pub anew : (level : ℕ) → level < 32 → level < lower →
      IsRun file (number + 1) level (run_at runs level)
  pub left : (level : ℕ) → level < 32 → lower ≤ level →
      IsRun file number level (run_at runs level)

-- one is another, and the others are as they were
set_at : (P : Run → Type 0) (runs : List Run) (at level : ℕ) (run : Run) → at < length runs →
    (level ≡ at → P run) → ((level ≡ at → ⊥) → P (run_at runs level)) →
    P (run_at (set runs at run) level)
set_at P runs at level run within here there = by_case (cases_eq level at)
  where
    by_case : (level ≡ at) ⊎ (level ≡ at → ⊥) → P (run_at (set runs at run) level)
    by_case (inl e) = subst (λ n. P (run_at (set runs at run) n)) (sym e)
        (subst P (sym (get_or-set_same runs at run (fresh 0) within)) (here e))
    by_case (inr other) = subst P (sym (get_or-set_other runs at level run (fresh 0) other))
        (there other)

pub one_begun : {file : ChunkFile} {number lower : ℕ} {runs : List Run} → lower < 32 →
    Begun file number lower runs →
    Begun file number (lower + 1) (set runs lower (fresh (number + 1)))
one_begun {file = file} {number = number} {lower = lower} {runs = runs} few begun =
    let within : lower < length runs = omega (arith, few, begun.long) in record {
      long = length-set runs lower (fresh (number + 1)) ∙ begun.long;
      anew = λ level small low. set_at (IsRun file (number + 1) level) runs lower level
          (fresh (number + 1)) within (λ e. is_fresh file level (number + 1))
          (λ other. begun.anew level small (omega (arith, low, other)));
      left = λ level small high. set_at (IsRun file number level) runs lower level
          (fresh (number + 1)) within (λ e. absurd (omega (arith, e, high)))
          (λ other. begun.left level small (omega (arith, high)));
    }

-- all of them are lower
pub all_begun : {file : ChunkFile} {number lower : ℕ} {runs : List Run} → 32 ≤ lower →
    Begun file number lower runs → AreRuns file (number + 1) runs
all_begun all begun = record {
  long = begun.long;
  each = λ level within. begun.anew level within (omega (arith, all, within));
}

-- or this one counts one more
pub all_counted : {file : ChunkFile} {frame : Frame} → IsFrame file frame →
    {runs : List Run} {count : ℕ} → frame.level < 32 →
    Begun file frame.number frame.level runs → count ≡ (run_at runs frame.level).count + 1 →
    AreRuns file (frame.number + 1) (set runs frame.level
    (record { from = (run_at runs frame.level).from; count = count }))
all_counted {file = file} {frame = frame} is {runs = runs} {count = count} few begun more =
    let new : Run = record { from = (run_at runs frame.level).from; count = count } in record {
      long = length-set runs frame.level new ∙ begun.long;
      each = λ level within. set_at (IsRun file (frame.number + 1) level) runs frame.level level
          new (omega (arith, few, begun.long))
          (λ e. subst (λ level. IsRun file (frame.number + 1) level new) (sym e)
          (one_counted is (begun.left frame.level few (omega arith)) more))
          (λ other. by_order level within other (cases_lt level frame.level));
    }
  where
    by_order : (level : ℕ) → level < 32 → (level ≡ frame.level → ⊥) →
        (level < frame.level) ⊎ (frame.level ≤ level) →
        IsRun file (frame.number + 1) level (run_at runs level)
    by_order level within other (inl less) = begun.anew level within less
    by_order level within other (inr most) = left_alone file level frame.number
        (run_at runs level) (begun.left level within most)
        (λ same. other (sym same ∙ sym is.level))
