-- What equal values of a variant, and equal numbers, have.
use Rattle.std.proofs.Common.{◌≡◌, ℕ, suc, Some, None, arith}
use Rattle.prolly_entry.specs.Record.{Record}
use Rattle.prolly_link.specs.declared.message.End.{End}
use Rattle.prolly_merge.specs.declared.heads.Head.TheVariants.{Ready, Ended}

pub none_some : {A : Type 0} (x : A) → None ≡ Some x → ⊥
none_some x e = cc

pub some_same : {A : Type 0} (x y : A) → Some x ≡ Some y → x ≡ y
some_same x y e = cc

pub ready_same : (r s : Record) → Ready r ≡ Ready s → r ≡ s
ready_same r s e = cc

pub ready_ended : (r : Record) (e : End) → Ready r ≡ Ended e → ⊥
ready_ended r e h = cc

pub ended_same : (e d : End) → Ended e ≡ Ended d → e ≡ d
ended_same e d h = cc

pub zero_suc : (n : ℕ) → 0 ≡ suc n → ⊥
zero_suc n e = omega arith

pub suc_zero : (n : ℕ) → suc n ≡ 0 → ⊥
suc_zero n e = omega arith

pub suc_same : (n k : ℕ) → suc n ≡ suc k → n ≡ k
suc_same n k e = omega arith
