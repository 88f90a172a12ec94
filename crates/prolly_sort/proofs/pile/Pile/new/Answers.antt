use Rattle.std.proofs.Common.{[], ap, refl, sym}
use Rattle.prolly_sort.proofs.pile.Pile.new.Goals as goal

pub returns-clause-none : goal.returns-clause-none
returns-clause-none g c = record {
  first = [];
  all = sym (ap (λ run. run.records) c.new.ensures);
  lawful = tt;
  shelf = c.new-2.ensures c.args.rule;
  count_is = refl;
}
