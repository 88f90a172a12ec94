use Rattle.std.proofs.Common.{refl}
use Rattle.prolly_build_tests.proofs.Given.{all_listed}
use Rattle.prolly_build_tests.proofs.building.steady.built_of_zeros.Goals as goal

pub returns : goal.returns
returns g c = c.failed_reads_are_true.ensures.steady c.args.config.now c.args.files.now.items _ _ _
    c.build.result (all_listed c.args.files.now.items _ (λ source. refl)) c.build.ensures.outcome
