-- Numbers with a few digits in a base.
use Rattle.std.proofs.Common.{ℕ, suc, ◌+◌, ◌*◌, ◌^◌, ◌<◌, ◌≤◌, arith}
use Rattle.std.proofs.lemmas.Nat.{mul-add-lt}
use Rattle.std.proofs.Math.Nat.{pow-le-pow_right, pow-suc}

-- one digit more, where there is room for it
pub push_below : (base i k number digit : ℕ) → number < base ^ i → digit < base → i < k →
    number * base + digit < base ^ k
push_below base i k number digit below digit_below room =
    let pushed = mul-add-lt number base digit (base ^ i) below digit_below in
    let powers : base ^ suc i ≤ base ^ k = pow-le-pow_right (omega arith) (omega arith) in
    omega (arith, pushed, powers, pow-suc base i)
