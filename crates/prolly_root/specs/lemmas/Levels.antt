-- The chunks of a level in a file, one behind another.
use Rattle.std.proofs.Common.{◌≡◌, ℕ, zero, suc, ◌+◌, ◌≤◌, ◌<◌, inl, inr, ◌⊎◌, sym, ap, ◌∙◌}
use Rattle.std.proofs.Common.{subst, arith}
use Rattle.std.proofs.lemmas.Bool.{cases_eq, cases_lt}
use Rattle.prolly_root.specs.ChunkFile.{ChunkFile}
use Rattle.prolly_root.specs.Walk.{IsBehind, IsFirstOfLevel, IsNth}

module _ (file : ChunkFile) (level : ℕ) where
  -- there is one
  first_one : (from n m : ℕ) → IsFirstOfLevel file level from n →
      IsFirstOfLevel file level from m → n ≡ m
  first_one from n m h k = by_order (cases_lt n m) (cases_lt m n)
    where
      by_order : (n < m) ⊎ (m ≤ n) → (m < n) ⊎ (n ≤ m) → n ≡ m
      by_order (inl less) other = absurd (k.none n h.from_on less h.is)
      by_order (inr most) (inl less) = absurd (h.none m k.from_on less k.is)
      by_order (inr most) (inr least) = omega (arith, most, least)

  pub nth_one : (k from n m : ℕ) → IsNth file level from k n → IsNth file level from k m →
      n ≡ m
  nth_one zero from n m h g = first_one from n m h g
  nth_one (suc k) from n m h g = first_one (suc h.0) n m h.2
      (subst (λ j. IsFirstOfLevel file level (suc j) m) (sym (nth_one k from h.0 g.0 h.1 g.1)) g.2)

  pub behind_one : (k from n m : ℕ) → IsBehind file level from k n →
      IsBehind file level from k m → n ≡ m
  behind_one zero from n m h g = h ∙ sym g
  behind_one (suc k) from n m h g = h.2 ∙ ap suc (nth_one k from h.0 g.0 h.1 g.1) ∙ sym g.2

  pub suc_behind : (from k n : ℕ) → IsBehind file level from (suc k) n →
      IsBehind file level from (k + 1) n
  suc_behind from k n h = let e : suc k ≡ k + 1 = omega arith in
      subst (λ k. IsBehind file level from k n) e h

  -- one more
  pub nth_next : (k from behind n : ℕ) → IsBehind file level from k behind →
      IsFirstOfLevel file level behind n → IsNth file level from k n
  nth_next zero from behind n h first = subst (λ b. IsFirstOfLevel file level b n) h first
  nth_next (suc k) from behind n h first =
      (h.0, h.1, subst (λ b. IsFirstOfLevel file level b n) h.2 first)

  pub behind_next : (from k behind n next : ℕ) → IsBehind file level from k behind →
      IsFirstOfLevel file level behind n → next ≡ suc n → IsBehind file level from (k + 1) next
  behind_next from k behind n next h first e =
      suc_behind from k next (n, nth_next k from behind n h first, e)

  -- what stands behind fewer, or as many, does not stand behind it
  pub behind_before : (k j from behind n : ℕ) → j ≤ k → IsBehind file level from j behind →
      IsNth file level from k n → behind ≤ n
  behind_before zero zero from behind n few here h = omega (arith, here, h.from_on)
  behind_before zero (suc j) from behind n few here h = absurd (omega (arith, few))
  behind_before (suc k) j from behind n few here h =
      by_case (cases_eq j (suc k)) (λ less. behind_before k j from behind h.0 less here h.1)
    where
      by_case : (j ≡ suc k) ⊎ (j ≡ suc k → ⊥) → (j ≤ k → behind ≤ h.0) → behind ≤ n
      by_case (inl e) before =
          let at = subst (λ j. IsBehind file level from j behind) e here in
          omega (arith, at.2, nth_one k from at.0 h.0 at.1 h.1, h.2.from_on)
      by_case (inr other) before =
          omega (arith, before (omega (arith, few, other)), h.2.from_on)
