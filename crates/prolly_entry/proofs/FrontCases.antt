-- The cases of what bytes begin with, by their number and the two lengths that they spell.
use Rattle.std.specs.Prelude.{nat_lt, ◌==◌}
use Rattle.std.proofs.Common.{◌≡◌, ◌≢◌, ℕ, ◌+◌, ◌<◌, ◌≤◌, true, false, refl, subst, arith}
use Rattle.std.proofs.lemmas.Bool.{cond_both}
use Rattle.std.proofs.lemmas.Bool.Decides.{nat_tests}
use Rattle.prolly_entry.specs.declared.front.FrontRecord.{FrontRecord}
use Rattle.prolly_entry.specs.declared.front.FrontRecord.TheVariants.{Put, Remove, More, KeyTooLong}
use Rattle.prolly_entry.specs.declared.front.FrontRecord.TheVariants.{ValueTooLong}
use Rattle.prolly_entry.specs.Front.{front_by}

pub data Shape (len n m : ℕ) : FrontRecord → Type 0 where
  no_key : len < 2 → Shape len n m More
  long_key : 2 ≤ len → 1024 < n → Shape len n m KeyTooLong
  no_length : 2 ≤ len → n ≤ 1024 → len < 6 + n → Shape len n m More
  removal : n ≤ 1024 → 6 + n ≤ len → m ≡ 0xFFFF_FFFF → Shape len n m (Remove (2 + n) (6 + n))
  long_value : n ≤ 1024 → 6 + n ≤ len → (m == 0xFFFF_FFFF) ≡ false → 65536 < m →
      Shape len n m ValueTooLong
  no_value : n ≤ 1024 → 6 + n ≤ len → m ≤ 65536 → len < 6 + n + m → Shape len n m More
  whole : n ≤ 1024 → m ≤ 65536 → 6 + n + m ≤ len → Shape len n m (Put (2 + n) (6 + n) (6 + n + m))

below : (a b : ℕ) → nat_lt a b ≡ true → a < b
below a b e = grind (arith, nat_tests)

not_below : (a b : ℕ) → nat_lt a b ≡ false → b ≤ a
not_below a b e = grind (arith, nat_tests)

pub not_same : (a : ℕ) → (a == 0xFFFF_FFFF) ≡ false → a ≢ 0xFFFF_FFFF
not_same a e = grind (arith, nat_tests)

is_same : (a b : ℕ) → (a == b) ≡ true → a ≡ b
is_same a b e = grind (arith, nat_tests)

pub shape : (len n m : ℕ) → Shape len n m (front_by len n m)
shape len n m =
    cond_both (nat_lt len 2) _ _ (Shape len n m) (λ e. Shape.no_key (below len 2 e)) (λ e2.
    cond_both (nat_lt 1024 n) _ _ (Shape len n m)
    (λ e. Shape.long_key (not_below len 2 e2) (below 1024 n e)) (λ e3.
    cond_both (nat_lt len (6 + n)) _ _ (Shape len n m)
    (λ e. Shape.no_length (not_below len 2 e2) (not_below 1024 n e3) (below len (6 + n) e))
    (λ e4.
    cond_both (m == 0xFFFF_FFFF) _ _ (Shape len n m)
    (λ e. Shape.removal (not_below 1024 n e3) (not_below len (6 + n) e4)
    (is_same m 0xFFFF_FFFF e)) (λ e5.
    cond_both (nat_lt 65536 m) _ _ (Shape len n m)
    (λ e. Shape.long_value (not_below 1024 n e3) (not_below len (6 + n) e4) e5
    (below 65536 m e)) (λ e6.
    cond_both (nat_lt len (6 + n + m)) _ _ (Shape len n m)
    (λ e. Shape.no_value (not_below 1024 n e3) (not_below len (6 + n) e4) (not_below 65536 m e6)
    (below len (6 + n + m) e)) (λ e7.
    Shape.whole (not_below 1024 n e3) (not_below 65536 m e6) (not_below len (6 + n + m) e7)))))))

-- What the bytes at hand decide, they decide with more bytes behind them.
pub more_same : {len n m : ℕ} {f : FrontRecord} (len' n' m' : ℕ) → Shape len n m f →
    (f ≡ More → ⊥) → len ≤ len' →
    (2 ≤ len → n ≡ n') → (6 + n ≤ len → m ≡ m') → front_by len' n' m' ≡ f
more_same len' n' m' (Shape.no_key a) d h p q = absurd (d refl)
more_same len' n' m' (Shape.no_length a b c) d h p q = absurd (d refl)
more_same len' n' m' (Shape.no_value a b c k) d h p q = absurd (d refl)
more_same {n} {m} len' n' m' (Shape.long_key a b) d h p q = let e = p (omega arith) in
    grind (arith, nat_tests)
more_same {n} {m} len' n' m' (Shape.removal a b c) d h p q = let e = p (omega arith) in let k =
    q (omega arith) in grind (arith, nat_tests)
more_same {n} {m} len' n' m' (Shape.long_value a b c k) d h p q =
    let e = p (omega arith) in let i = q (omega arith) in
    let t : (m' == 0xFFFF_FFFF) ≡ false = subst (λ x. (x == 0xFFFF_FFFF) ≡ false) i c in
    let u : nat_lt 65536 m' ≡ true = grind (arith, nat_tests) in
    let v : nat_lt len' 2 ≡ false = grind (arith, nat_tests) in
    let w : nat_lt 1024 n' ≡ false = grind (arith, nat_tests) in
    let x : nat_lt len' (6 + n') ≡ false = grind (arith, nat_tests) in
    rw (v, w, x, t, u)
more_same {n} {m} len' n' m' (Shape.whole a b c) d h p q = let e = p (omega arith) in let k =
    q (omega arith) in grind (arith, nat_tests)
