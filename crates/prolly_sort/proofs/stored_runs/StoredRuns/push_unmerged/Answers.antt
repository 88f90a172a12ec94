use Rattle.std.proofs.Common.{◌++◌, sym, subst}
use Rattle.prolly_sort.specs.Shelf.{AreStored}
use Rattle.prolly_sort.proofs.Storing.{one_more}
use Rattle.prolly_sort.proofs.stored_runs.StoredRuns.push_unmerged.Goals as goal

pub returns-clause-stored : goal.returns-clause-stored
returns-clause-stored g c = λ rule came part keeps stored all.
    let seen = g.S.Source.seen in
    subst (λ runs. AreStored seen rule runs (came ++ part)) (sym c.in_default.ensures.items)
    (one_more seen rule c.args.self.now.runs.items c.in_ok-run.run' came part
    stored (c.in_ok-run.ensures.run rule part keeps all))
