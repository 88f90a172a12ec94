-- The size of a chunk, doubled bit by bit.
use Rattle.std.proofs.Common.{◌≡◌, ℕ, ◌+◌, ◌*◌, ◌^◌, ◌<◌, ◌≤◌, ◌⊎◌, inl, inr, sym, ap, ◌∙◌, subst}
use Rattle.std.proofs.Common.{arith}
use Rattle.std.proofs.Math.Nat.{eq-or-lt_of_le, mul_right_comm, pow-suc}
use Rattle.std.proofs.Math.Numerals.{suc-eq-add-one}
use Rattle.prolly_answer.specs.ChunkBytes.{IsEnough, chunk_size}

-- Fewer bits from 2 on are not enough, and the size is that by these.
pub record IsDoubled (entry wanted bits size : ℕ) : Type 0 where
  pub some : 2 ≤ bits
  pub size_is : size ≡ chunk_size entry bits
  pub small : size ≤ 10000000000
  pub least : (fewer : ℕ) → 2 ≤ fewer → fewer < bits →
      IsEnough (chunk_size entry fewer) wanted → ⊥

-- The size by one bit more is twice the size.
doubled : (entry bits : ℕ) → chunk_size entry (bits + 1) ≡ chunk_size entry bits * 2
doubled entry bits = ap (λ n. 2 ^ n * entry) (sym (suc-eq-add-one bits)) ∙
    (ap (λ p. p * entry) (pow-suc 2 bits) ∙ mul_right_comm (2 ^ bits) 2 entry)

pub one_doubled : (entry wanted bits size : ℕ) → wanted < 4294967296
    → IsDoubled entry wanted bits size → (IsEnough size wanted → ⊥)
    → IsDoubled entry wanted (bits + 1) (size * 2)
one_doubled entry wanted bits size within h few = record {
  some = omega (arith, h.some);
  size_is = ap (λ n. n * 2) h.size_is ∙ sym (doubled entry bits);
  small = omega (arith, few);
  least = λ fewer some below. at fewer some (eq-or-lt_of_le (omega arith));
}
  where
    at : (fewer : ℕ) → 2 ≤ fewer → (fewer ≡ bits) ⊎ (fewer < bits) →
        IsEnough (chunk_size entry fewer) wanted → ⊥
    at fewer some (inl same) enough = few (subst (λ n. IsEnough n wanted)
        (ap (chunk_size entry) same ∙ sym h.size_is) enough)
    at fewer some (inr below) enough = h.least fewer some below enough
