use Rattle.std.proofs.Common.{ap, rules}
use Rattle.prolly_root_diff.proofs.due_trees.whole_tree.Goals as goal

pub returns : goal.returns
returns g c = record {
  whole = c.of_root.result;
  one = search rules;
  next = ap (λ r. r.0) c.of_root.ensures.next;
  alone = c.of_root.ensures.alone;
  top = c.of_root.ensures.top;
}
