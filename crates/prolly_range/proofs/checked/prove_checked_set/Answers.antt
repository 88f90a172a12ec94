use Rattle.std.proofs.Common.{rules}
use Rattle.prolly_range.specs.lemmas.Unfailed.{may_stop}
use Rattle.prolly_range.proofs.checked.prove_checked_set.Goals as goal

pub returns-clause-lawful : goal.returns-clause-lawful
returns-clause-lawful g c = λ content file. may_stop 0 c.prove_set.result c.prove_set.ensures.reads
    (c.prove_set.ensures.lawful content (search rules) (search rules) (search rules))
