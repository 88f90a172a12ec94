-- Record files that were looked at before they are read.
use Rattle.std.specs.Prelude.{◌≡◌, ◌≢◌, ◌≤◌, ℕ, List, [], ◌∷◌, ◌++◌, length, map, take, true}
use Rattle.prolly_io.specs.Source.{SourceView}
use Rattle.prolly_link.specs.declared.fault.RunFault.{RunFault}
use Rattle.prolly_link.specs.declared.fault.RunFault.TheVariants.{Read, TooManyFiles}
use Rattle.prolly_answer.specs.ChunkBytes.{Sampled, Samples}

-- The first bytes of files were seen, one file after another: of each as many as were still to be
-- seen, or all where it has fewer.
abbrev pub SamplesAll : List (List ℕ) → Sampled → Sampled → Type 0
SamplesAll [] old new = new ≡ old
SamplesAll (file ∷ files) old new = (between : Sampled) × Samples (take old.left file) old between
    × SamplesAll files between new

-- An honest source gives what another one gave when it had not been looked at. No read failed
-- meanwhile, and none will where none would have failed.
pub record IsPutBack (old new : SourceView) : Type 0 where
  pub left : new.left ≡ old.left
  pub honest : new.is_honest ≡ true
  pub steady : old.is_steady ≡ true → new.is_steady ≡ true
  pub failures : new.failures ≡ old.failures

-- The fault of a file that can't be read, by its number.
abbrev pub IsUnread : ℕ → RunFault → Type 0
IsUnread number (Read file) = file ≡ number
IsUnread number TooManyFiles = 4294967296 ≤ number
IsUnread number _ = ⊥

module _ {S : Type 0} (seen : S → SourceView) where
  -- What each source has left.
  abbrev pub lefts_of : List S → List (List ℕ)
  lefts_of sources = map (λ s. (seen s).left) sources

  -- A read of one of the sources failed: of the one that has this number among them. It is given back
  -- as the failed read left it.
  pub record IsUnreadOf (sources : List S) (number : ℕ) (after : S) : Type 0 where
    pub before : List S
    pub source : S
    pub behind : List S
    pub place : sources ≡ before ++ source ∷ behind
    pub numbered : number ≡ length before
    pub failed : (seen after).failures ≢ (seen source).failures
    pub unsteady : (seen source).is_steady ≢ true

module _ {S T : Type 0} (seen : S → SourceView) (seen' : T → SourceView) where
  -- Of each honest source there is one that gives what it gave, in the same order.
  abbrev pub ArePutBack : List S → List T → Type 0
  ArePutBack [] [] = Unit {0}
  ArePutBack (s ∷ ss) (t ∷ ts) =
      ((seen s).is_honest ≡ true → IsPutBack (seen s) (seen' t)) × ArePutBack ss ts
  ArePutBack _ _ = ⊥
