use Rattle.std.proofs.Common.{refl}
use Rattle.prolly_build_tests.proofs.Given.{all_given}
use Rattle.prolly_build_tests.proofs.building.old_sources.applied_in_memory.Goals as goal

pub returns : goal.returns
returns g c = c.no_failed_read_is_told.ensures c.new-old.result c.apply_changes.result.source
    c.apply_changes.result.answer c.apply_changes.ensures.given_back
    (all_given c.apply_changes.result.source _ (λ source. refl))
