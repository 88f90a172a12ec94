-- The status of several files, of which one more was answered.
use Rattle.std.proofs.Common.{◌≡◌, ◌≢◌, ℕ, zero, suc, List, [], ◌∷◌, ◌++◌, refl}
use Rattle.prolly_fault.specs.Answers.{first_refusal}

-- Where none was refused before, it is that of the one.
pub none_refused : (before : List ℕ) (status : ℕ) → first_refusal before ≡ 0 →
    first_refusal (before ++ status ∷ []) ≡ status
none_refused [] zero none = refl
none_refused [] (suc n) none = refl
none_refused (zero ∷ before) status none = none_refused before status none
none_refused (suc n ∷ before) status none = cc

-- And else that of the first refusal.
pub one_refused : (before : List ℕ) (status : ℕ) → first_refusal before ≢ 0 →
    first_refusal (before ++ status ∷ []) ≡ first_refusal before
one_refused [] status some = absurd (some refl)
one_refused (zero ∷ before) status some = one_refused before status some
one_refused (suc n ∷ before) status some = refl
