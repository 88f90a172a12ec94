use Rattle.std.proofs.Common.{◌≡◌, refl}
use Rattle.prolly_link.specs.declared.fault.RunFault.TheVariants.{Memory, TooManyFiles}
use Rattle.prolly_build.proofs.Loads.{same_kept}
use Rattle.prolly_build.proofs.RanSteps.{nothing_begun}
use Rattle.prolly_build.proofs.Refusals.{untouched_refused}
use Rattle.prolly_build.proofs.driver.build_with.Goals as goal

pub returns-then-len-gt-FILES_LIMIT-clause-outcome
    : goal.returns-then-len-gt-FILES_LIMIT-clause-outcome
returns-then-len-gt-FILES_LIMIT-clause-outcome g c = record {
  built = tt;
  kept = tt;
  unmade = λ w. absurd w;
  stopped = λ file. absurd file;
  refused = λ memory. absurd (too_many_is_no_memory memory);
  begun = λ n. nothing_begun _ _;
  unstarted = λ s. refl;
  left_behind = λ a b. same_kept g.S.Source.seen c.args.sources.now.items;
  keeps = λ k. k;
}
  where
    too_many_is_no_memory : TooManyFiles ≡ Memory → ⊥
    too_many_is_no_memory e = cc

pub returns-in_default-clause-outcome : goal.returns-in_default-clause-outcome
returns-in_default-clause-outcome g c =
    let source = g.met.S.Source g.world.𝓛 g.world.𝓜 g.world.𝓡 (
      (λ s x. x),
      (λ x. x),
      (λ x. x),
      λ x. x,
    ) in
    record {
      built = tt;
      kept = tt;
      unmade = λ w. absurd w;
      stopped = λ file. absurd file;
      refused = λ memory. untouched_refused g.S.Source.seen source.left_are_bytes _
          c.args.sources.now.items _;
      begun = λ n. nothing_begun _ _;
      unstarted = λ s. refl;
      left_behind = λ a b. same_kept g.S.Source.seen c.args.sources.now.items;
      keeps = λ k. k;
    }
