use Rattle.std.proofs.Common.{arith, rules}
use Rattle.prolly_check.proofs.IndexSteps.{as_many, reference_at}
use Rattle.prolly_check.proofs.tree.Tree.root.Goals as goal

pub bounds-references-root : goal.bounds-references-root
bounds-references-root c =
    let many = as_many _ _ (c.references.ensures c.file.result c.file.ensures.of) in
    omega (arith, c.root.ensures.within, many)

pub returns : goal.returns
returns c = λ content is. search (rules, as_many, reference_at)
