use Rattle.std.proofs.Common.{rules, arith, sym, ◌∙◌}
use Rattle.prolly_look_up.specs.lemmas.EntryLists.{next_pair, no_next, leaf_less, spelling_is}
use Rattle.prolly_look_up.proofs.entries.Pairs.next_spelling.Goals as goal

pub invariant_of-self : goal.invariant_of-self
invariant_of-self c = leaf_less c.self.inside.entries.now c.in_ok-rest.rest.now _
    c.in_ok-rest.ensures.some c.self.invariant

pub returns-clause-next : goal.returns-clause-next
returns-clause-next c = (
  _,
  c.split_at.ensures.front ∙ spelling_is c.self.inside.entries.now c.in_ok-rest.rest.now _ _
      c.in_ok-rest.ensures.some (omega arith),
  sym c.self.view_is ∙ next_pair c.self.inside.entries.now _ c.in_ok-rest.rest.now
      c.in_ok-rest.ensures.some,
)

pub returns-in_err-rest-clause-next : goal.returns-in_err-rest-clause-next
returns-in_err-rest-clause-next c = search (rules, no_next)

pub returns-in_err-rest-clause-none : goal.returns-in_err-rest-clause-none
returns-in_err-rest-clause-none c = search (rules, no_next)
