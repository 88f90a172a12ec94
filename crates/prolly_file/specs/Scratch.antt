-- What the plain builder answers.
use Rattle.std.specs.Prelude.{◌≡◌, ℕ, ◌+◌, ◌<◌, ◌≤◌, List, ◌++◌, length, take, map, Result, IfOk}
use Rattle.std.specs.Prelude.{IfErr, OnErr, MatchResult}
use Rattle.prolly_entry.specs.declared.version.Version.{Version}
use Rattle.prolly_entry.specs.Keys.{Rising}
use Rattle.prolly_entry.specs.Pair.{Pair}
use Rattle.prolly_entry.specs.Cut.{Cut}
use Rattle.prolly_tree.specs.Tree.{level_count}
use Rattle.prolly_tree.specs.File.{file, root_reference}
use Rattle.prolly_entry.specs.declared.reference.Ref.{Ref}
use Rattle.prolly_file.specs.declared.scratch_build.ScratchFault.{ScratchFault}
use Rattle.prolly_file.specs.declared.scratch_build.ScratchFault.TheVariants.{Memory}
use Rattle.prolly_file.specs.declared.scratch_build.ScratchFault.TheVariants.{OutOfOrder}
use Rattle.prolly_file.specs.declared.scratch_build.ScratchFault.TheVariants.{TooTall}

-- The keys of pairs, in their order.
abbrev pub keys_in : List Pair → List (List ℕ)
keys_in pairs = map (λ p. p.key) pairs

-- The pair at this place is the first whose key is not greater than the one before.
pub record FallsAt (pairs : List Pair) (place : ℕ) : Type 0 where
  pub within : place < length pairs
  pub rising : Rising (keys_in (take place pairs))
  pub falls : Rising (keys_in (take (place + 1) pairs)) → ⊥

-- The pairs are a map whose tree has at most so many levels, its file is appended, and this is the
-- root's reference.
pub record Builds (cut : Cut) (version : Version) (pairs : List Pair) (max_levels : ℕ)
    (old new root : List ℕ) : Type 0 where
  pub rising : Rising (keys_in pairs)
  pub low : level_count cut version pairs ≤ max_levels
  pub appended : new ≡ old ++ file cut version pairs
  pub root_is : root ≡ root_reference cut version pairs

-- The pairs are a map, whose tree has more levels.
pub record IsTallerTree (cut : Cut) (version : Version) (pairs : List Pair) (max_levels : ℕ)
    : Type 0 where
  pub rising : Rising (keys_in pairs)
  pub tall : max_levels < level_count cut version pairs

-- What is wrong with the pairs; want of memory may come over a tree that is too tall.
abbrev pub IsScratchFault : Cut → Version → List Pair → ℕ → ScratchFault → Type 0
IsScratchFault cut version pairs max_levels Memory = Unit {0}
IsScratchFault cut version pairs max_levels (OutOfOrder pair) = FallsAt pairs pair
IsScratchFault cut version pairs max_levels TooTall = IsTallerTree cut version pairs max_levels

-- The fault is that of a pair out of order.
abbrev pub IsOrderFault : ScratchFault → Type 0
IsOrderFault Memory = ⊥
IsOrderFault (OutOfOrder pair) = Unit {0}
IsOrderFault TooTall = ⊥

-- What the plain builder answers, over a vector that held `old` before and holds `new` after.
pub record IsScratched (cut : Cut) (version : Version) (pairs : List Pair) (max_levels : ℕ)
    (old new : List ℕ)
    (result : Result Ref ScratchFault) : Type 0 where
  -- an answer is the root of the file that was appended
  pub ok : IfOk result (λ root. Builds cut version pairs max_levels old new root.0)
  pub err : IfErr result (λ fault. IsScratchFault cut version pairs max_levels fault)
  -- where there is a pair out of order, that is the fault, before want of memory and all else
  pub order : (Rising (keys_in pairs) → ⊥) → MatchResult result (λ root. ⊥) IsOrderFault
  -- a fault leaves the vector as it was
  pub unchanged : OnErr result (new ≡ old)
