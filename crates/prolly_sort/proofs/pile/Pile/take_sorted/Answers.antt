use Rattle.std.proofs.Common.{◌++◌, ◌∙◌, ap, sym}
use Rattle.prolly_sort.proofs.Telling.{told_of_all, told_through}
use Rattle.prolly_sort.proofs.pile.Pile.take_sorted.Goals as goal

pub returns-clause-told : goal.returns-clause-told
returns-clause-told g c = told_through c.args.self.now.rule _ _ c.sort.result
    (λ a b told came h numbered.
    told_of_all h.first c.replace-run.result.records came c.args.self.now.count
    c.saturating_sub-before.result a b
    (h.all ∙ ap (λ run. h.first ++ run.records) (sym c.replace-run.ensures.value)) numbered
    h.count_is (rw c.len.ensures at c.saturating_sub-before.ensures) told)
    c.sort.ensures.told
