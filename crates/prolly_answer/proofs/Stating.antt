-- What `stat` answers of a file of either kind.
use Rattle.std.proofs.Common.{◌≡◌, ℕ, List, Bool, inl, subst, Result, Ok, Err}
use Rattle.std.specs.Prelude.{IfOk, ◌≢◌}
use Rattle.prolly_answer.specs.Stat.{IsStat, IsStatOf, is_chunk_file}
use Rattle.prolly_fault.specs.declared.answer.Answer.{Answer}
use Rattle.prolly_answer.specs.declared.answers.stat.StatForm.{StatForm}

-- what is answered of bytes of a kind, and of failures from one number to another, is answered of
-- what they are
pub stated : {E : Type 0} (kind : Bool) (form : StatForm) (bytes left behind : List ℕ)
    (before after old new : ℕ) (result : Result Answer E) → bytes ≡ left →
    kind ≡ is_chunk_file left → before ≡ old → after ≡ new →
    IfOk result (IsStatOf kind form bytes (after ≢ before)) →
    IfOk result (IsStat form left behind (new ≢ old))
stated kind form bytes left behind before after old new (Ok answer) same is began ended shown =
    inl (subst (λ k. IsStatOf k form left (new ≢ old) answer) is
    (subst (λ n. IsStatOf kind form left (n ≢ old) answer) ended
    (subst (λ n. IsStatOf kind form left (after ≢ n) answer) began
    (subst (λ l. IsStatOf kind form l (after ≢ before) answer) same shown))))
stated kind form bytes left behind before after old new (Err e) same is began ended shown = tt
