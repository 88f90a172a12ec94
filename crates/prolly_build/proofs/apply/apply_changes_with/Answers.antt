use Rattle.std.proofs.Common.{◌≡◌, refl}
use Rattle.prolly_link.specs.declared.fault.RunFault.TheVariants.{Memory, TooManyFiles}
use Rattle.prolly_build.proofs.ApplyOutcomes.{unstarted_outcome, untouched_refused}
use Rattle.prolly_build.proofs.Loads.{same_kept}
use Rattle.prolly_build.proofs.RanSteps.{nothing_begun}
use Rattle.prolly_build.proofs.apply.apply_changes_with.Goals as goal

pub returns-then-len-gt-CHANGES_LIMIT-clause-outcome
    : goal.returns-then-len-gt-CHANGES_LIMIT-clause-outcome
returns-then-len-gt-CHANGES_LIMIT-clause-outcome g c =
    unstarted_outcome _ _ _ _ _ _ _ _ _ TooManyFiles (λ w. w) (λ f. f) refl
    (same_kept g.S.Source.seen c.args.sources.now.items) (nothing_begun _ _)
    (λ e. absurd (too_many_is_no_memory e))
  where
    too_many_is_no_memory : TooManyFiles ≡ Memory → ⊥
    too_many_is_no_memory e = cc

pub returns-in_default-clause-outcome : goal.returns-in_default-clause-outcome
returns-in_default-clause-outcome g c =
    let source = g.met.S.Source g.world.𝓛 g.world.𝓜 g.world.𝓡 (
      (λ s x. x),
      (λ x. x),
      (λ x. x),
      λ x. x,
    ) in
    unstarted_outcome _ _ _ _ _ _ _ _ _ Memory (λ w. w) (λ f. f) refl
    (same_kept g.S.Source.seen c.args.sources.now.items) (nothing_begun _ _)
    (λ e. untouched_refused g.S.Source.seen source.left_are_bytes _ _ _
    c.args.sources.now.items _)
