-- Reads that are served from a block of a device.
use Rattle.std.proofs.Common.{◌≡◌, ℕ, ◌+◌, ◌-◌, ◌≤◌, Bool, true, false, List, length, take, drop}
use Rattle.std.proofs.Common.{refl}
use Rattle.std.proofs.Common.{sym, ap, ◌∙◌, subst, arith}
use Rattle.std.specs.Prelude.{◌&&◌, min}
use Rattle.std.specs.Str.{bytes_eq}
use Rattle.std.proofs.lemmas.List.{drop-drop, drop-take, length-take-le, take-take, take_min}
use Rattle.std.proofs.lemmas.Slice.Eq.{bytes_eq-Decides}
use Rattle.prolly_io.specs.BytesLaws.{both_true}

-- ---- the test

pub and_true : (b : Bool) → (b && true) ≡ b
and_true true = refl
and_true false = refl

-- what is kept are the bytes from the start on
abbrev pub AreKept : ℕ → List ℕ → ℕ → List ℕ → Type 0
AreKept kept block start bytes = take kept block ≡ take kept (drop start bytes)

module _ (honest : Bool) (kept : ℕ) (block : List ℕ) (start : ℕ) (bytes : List ℕ) where
  abbrev pub test : Bool
  test = honest && bytes_eq (take kept block) (take kept (drop start bytes))

  pub tested : test ≡ true → (honest ≡ true) × AreKept kept block start bytes
  tested t =
      let both = both_true honest (bytes_eq (take kept block) (take kept (drop start bytes))) t in
      (both.0, (bytes_eq-Decides (take kept block) (take kept (drop start bytes))).0 both.1)

  pub passes : honest ≡ true → AreKept kept block start bytes → test ≡ true
  passes h k = ap (λ b. b && bytes_eq (take kept block) (take kept (drop start bytes))) h ∙
      (bytes_eq-Decides (take kept block) (take kept (drop start bytes))).1 k

-- a call of the device below that leaves its bytes leaves it so
module _ (old new : Bool) (kept : ℕ) (block : List ℕ) (start : ℕ) (before after : List ℕ)
    (still : old ≡ true → new ≡ true) (same : old ≡ true → after ≡ before) where
  pub still_kept : test old kept block start before ≡ true →
      test new kept block start after ≡ true
  still_kept t =
      let is = tested old kept block start before t in
      passes new kept block start after (still is.0)
      (is.1 ∙ ap (λ b. take kept (drop start b)) (sym (same is.0)))

  pub same_below : test old kept block start before ≡ true → after ≡ before
  same_below t = same (tested old kept block start before t).0

-- ---- what is served

-- from the middle of what is kept
pub kept_serve : (kept start offset len : ℕ) (block bytes : List ℕ) → AreKept kept block start bytes →
    start ≤ offset → (offset - start) + len ≤ kept →
    take len (drop (offset - start) block) ≡ take len (drop offset bytes)
kept_serve kept start offset len block bytes are behind within =
    let at = offset - start in
    let there : start + at ≡ offset = omega (arith, behind) in
    sym (drop-take at len block) ∙
    ap (drop at) (sym (take-take (at + len) kept block within) ∙ ap (take (at + len)) are ∙
    take-take (at + len) kept (drop start bytes) within) ∙
    drop-take at len (drop start bytes) ∙
    ap (take len) (drop-drop at start bytes ∙ ap (λ n. drop n bytes) there)

module _ (count : ℕ) (block left : List ℕ) (few : count ≤ length block)
    (given : take count block ≡ take (length block) left) where
  -- a block that was read is the device's
  pub block_kept : take count block ≡ take count left
  block_kept = sym (take-take count count block (omega arith)) ∙ ap (take count) given ∙
      take-take count (length block) left few

  -- its first bytes are those that are asked for
  pub first_serve : (len : ℕ) → len ≤ length block → take (min len count) block ≡ take len left
  first_serve len room =
      sym (take-take (min len count) count block (omega arith)) ∙
      subst (λ n. take (min len n) (take count block) ≡ take len (take count block))
      (length-take-le count block few) (take_min len (take count block)) ∙
      ap (take len) given ∙ take-take len (length block) left room
