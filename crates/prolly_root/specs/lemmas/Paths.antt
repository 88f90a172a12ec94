-- Going on step by step, where there is one step at most.
use Rattle.std.proofs.Common.{◌≡◌, ◌∙◌, List, [], ◌∷◌, ◌++◌, refl, sym, subst}
use Rattle.prolly_root.specs.Path.{IsPath}

module _ {A : Type 0} (Step : A → A → Type 0) where
  -- One step more.
  pub path_more : (at : A) (steps : List A) (last next : A) → IsPath Step at steps last →
      Step last next → IsPath Step at (steps ++ next ∷ []) next
  path_more at [] last next leads step = (subst (λ a. Step a next) (sym leads) step, refl)
  path_more at (s ∷ steps) last next leads step =
      (leads.0, path_more s steps last next leads.1 step)

  -- Two ways from one place end at one place, where there is no step from either.
  pub one_end : ((at next other : A) → Step at next → Step at other → next ≡ other) →
      (P Q : A → Type 0) → ((at next : A) → P at → Step at next → ⊥) →
      ((at next : A) → Q at → Step at next → ⊥) → (at : A) (steps others : List A) (last end : A) →
      IsPath Step at steps last → IsPath Step at others end → P last → Q end → last ≡ end
  one_end one P Q no_p no_q at [] [] last end leads lead p q = sym leads ∙ lead
  one_end one P Q no_p no_q at [] (s ∷ others) last end leads lead p q =
      absurd (no_p at s (subst P (sym leads) p) lead.0)
  one_end one P Q no_p no_q at (s ∷ steps) [] last end leads lead p q =
      absurd (no_q at s (subst Q (sym lead) q) leads.0)
  one_end one P Q no_p no_q at (s ∷ steps) (t ∷ others) last end leads lead p q =
      one_end one P Q no_p no_q s steps others last end leads.1
      (subst (λ a. IsPath Step a others end) (one at t s lead.0 leads.0) lead.1) p q
