use Rattle.std.proofs.Common.{◌++◌, ◌∙◌, ap, append_assoc}
use Rattle.prolly_entry.specs.Record.{IsRecord}
use Rattle.prolly_entry.specs.lemmas.Lists.{all_append}
use Rattle.prolly_sort.proofs.shelf.Shelf.add.Goals as goal

pub returns-clause-holds : goal.returns-clause-holds
returns-clause-holds g c = λ came more keeps h s lawful obeys.
    let b = c.in_ok-run.ensures.run came more keeps h s in
    record {
      first = b.first;
      last = b.last ++ more;
      all = ap (λ rs. rs ++ more) b.all ∙ append_assoc b.first b.last more;
      lawful = all_append IsRecord came more b.lawful lawful;
      stored = b.stored;
      open_is = c.in_ok-append.ensures c.args.rule b.last more b.run_is s b.behind obeys;
    }
