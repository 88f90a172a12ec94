use Rattle.std.proofs.Common.{◌≡◌, ℕ, List, [], ◌∷◌, ◌++◌, length, drop, sym, ◌∙◌, append-nil}
use Rattle.std.proofs.Common.{subst}
use Rattle.std.proofs.lemmas.Bool.Decides.{Decides-eqb}
use Rattle.std.proofs.lemmas.Slice.Eq.{starts_is}
use Rattle.prolly_root.specs.ProofFault.{IsStartOf, EndsWithin}
use Rattle.prolly_root.proofs.proof.start.start_fault.Goals as goal

within : (start bytes left : List ℕ) → start ≡ bytes ++ left → (IsStartOf start bytes → ⊥) →
    EndsWithin start bytes
within start bytes [] e other =
    absurd (other (record {
      rest = [];
      is = sym (append-nil bytes) ∙ sym e ∙
          sym (append-nil start);
    }))
within start bytes (b ∷ left) e other = record { byte = b; more = left; is = e }

pub returns-then-starts_with : goal.returns-then-starts_with
returns-then-starts_with c =
    let start = c.proof_start.result in
    let bytes = c.args.proof.now in
    subst (λ start. EndsWithin start bytes) c.proof_start.ensures
    (within start bytes (drop (length bytes) start)
    ((starts_is Decides-eqb start bytes c.starts_with.result c.starts_with.ensures.value).0
    c.if-starts_with.true)
    (subst (λ start. IsStartOf start bytes → ⊥) (sym c.proof_start.ensures) c.requires))
