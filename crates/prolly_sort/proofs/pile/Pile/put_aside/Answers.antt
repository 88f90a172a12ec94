use Rattle.std.proofs.Common.{◌++◌, ◌∙◌, ap, append-nil, subst, sym}
use Rattle.std.proofs.lemmas.Result.{on_ok_weaker}
use Rattle.std.specs.List.{AllByRecursion}
use Rattle.prolly_entry.specs.Record.{IsRecord}
use Rattle.prolly_entry.specs.lemmas.Lists.{all_back}
use Rattle.prolly_sort.specs.Shelf.{HoldsAll}
use Rattle.prolly_sort.specs.Told.{AreTold}
use Rattle.prolly_sort.proofs.Telling.{told_before, told_on, told_same, told_through}
use Rattle.prolly_sort.proofs.pile.Pile.put_aside.Goals as goal

pub returns-in_err-sorted-clause-told : goal.returns-in_err-sorted-clause-told
returns-in_err-sorted-clause-told g c = told_on c.args.self.now.rule _ _ _ _ c.from_residual.ensures.1
    (λ a b told came keeps h numbered. told came h numbered) c.in_err-sorted.ensures.told

pub returns-clause-came : goal.returns-clause-came
returns-clause-came g c = λ came keeps h.
    let taken = c.in_ok-sorted.ensures in
    let more = c.args.self.now.run.records in
    on_ok_weaker c.add.result (λ holds. record {
      first = came;
      all = sym (ap (λ rs. came ++ rs) taken.empty ∙ append-nil came);
      lawful = h.lawful;
      shelf = subst (HoldsAll g.W.Sink.seen g.S.Source.seen c.take_sorted.new.self.rule c.add.new.self)
          (sym h.all) holds;
      count_is = taken.count ∙ h.count_is;
    }) (c.add.ensures.holds h.first more keeps (rw (taken.rule, taken.shelf) h.shelf) taken.records
    (all_back IsRecord h.first more (subst (AllByRecursion IsRecord) h.all h.lawful))
    (rw taken.rule taken.obeys))

pub returns-clause-told : goal.returns-clause-told
returns-clause-told g c =
    let taken = c.in_ok-sorted.ensures in
    let rule = c.take_sorted.new.self.rule in
    told_same rule c.args.self.now.rule _ c.add.result taken.rule
    (told_through rule _ _ c.add.result (λ a b told came keeps h numbered.
    let more = c.args.self.now.run.records in
    subst (λ rs. AreTold rs a b) (sym h.all)
    (told_before h.first more a b (told h.first keeps (rw (taken.rule, taken.shelf) h.shelf))))
    c.add.ensures.told)
