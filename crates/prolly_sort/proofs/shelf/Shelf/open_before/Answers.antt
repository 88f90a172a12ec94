use Rattle.std.proofs.Common.{[], ◌++◌, ◌∙◌, ap, append-nil, subst, sym}
use Rattle.std.specs.List.{AllByRecursion}
use Rattle.prolly_entry.specs.Record.{IsRecord}
use Rattle.prolly_sort.specs.Shelf.{HoldsIfOpen}
use Rattle.prolly_sort.proofs.Behind.{first_rises}
use Rattle.prolly_sort.proofs.shelf.Shelf.open_before.Goals as goal

pub returns-in_default-clause-run : goal.returns-in_default-clause-run
returns-in_default-clause-run g c = λ came more keeps h s.
    let new = c.in_ok-create.ensures.empty keeps in
    let none = subst (λ run. HoldsIfOpen g.W.Sink.seen c.args.rule run h.last)
    (sym c.take.ensures.value ∙ c.in_default.is) h.open_is in
    record {
      first = h.first;
      last = [];
      all = h.all ∙ ap (λ last. h.first ++ last) none;
      lawful = h.lawful;
      stored = h.stored;
      run_is = c.new.ensures c.args.rule new.0 new.1;
      behind = first_rises more;
    }

pub returns-clause-run : goal.returns-clause-run
returns-clause-run g c = λ came more keeps h s.
    let run = subst (λ run. HoldsIfOpen g.W.Sink.seen c.args.rule run h.last)
    (sym c.take.ensures.value ∙ c.in-Some.is) h.open_is in
    let new = c.in_ok-create-2.ensures.empty (c.in_ok-push.ensures.keeps keeps) in
    record {
      first = h.first ++ h.last;
      last = [];
      all = h.all ∙ sym (append-nil (h.first ++ h.last));
      lawful = h.lawful;
      stored = c.in_ok-push.ensures.stored h.first h.last keeps h.stored
          (subst (AllByRecursion IsRecord) h.all h.lawful)
          (c.into_sorted.ensures c.args.rule h.last run.0 run.1);
      run_is = c.new-2.ensures c.args.rule new.0 new.1;
      behind = first_rises more;
    }
