use Rattle.std.proofs.Common.{arith, rules}
use Rattle.prolly_check.proofs.IndexSteps.{as_many, reference_at}
use Rattle.prolly_check.specs.lemmas.Sizes.{few_pairs}
use Rattle.prolly_check.proofs.report.report_of.Goals as goal

pub count_pairs-requires : goal.count_pairs-requires
count_pairs-requires c = grind (arith, few_pairs)

pub returns : goal.returns
returns c = search (rules, as_many, reference_at)
