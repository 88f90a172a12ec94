use Rattle.std.proofs.Common.{◌++◌, ◌∙◌, ap, subst, sym}
use Rattle.prolly_sort.specs.Told.{Obeys}
use Rattle.prolly_sort.proofs.pile.Pile.check_keys.Goals as goal

pub returns-then-is_empty-clause-obeys : goal.returns-then-is_empty-clause-obeys
returns-then-is_empty-clause-obeys g c = λ came keeps h.
    let rule = c.args.self.rule in
    let none = c.is_empty.ensures rule h.first c.if-is_empty.true h.shelf in
    subst (Obeys rule) (sym (h.all ∙ ap (λ first. first ++ c.args.self.run.records) none))
    c.in_ok-take_sorted.ensures.obeys
