use Rattle.std.proofs.Common.{◌-◌, [], ◌∷◌, ◌++◌, ◌∙◌, ap, drop, sym, subst, take}
use Rattle.std.specs.List.{AllByRecursion}
use Rattle.std.proofs.lemmas.List.{take-append-drop}
use Rattle.prolly_entry.specs.Record.{IsRecord}
use Rattle.prolly_entry.specs.lemmas.Lists.{all_back}
use Rattle.prolly_sort.specs.Shelf.{AreStored}
use Rattle.prolly_sort.specs.Told.{AreTold}
use Rattle.prolly_sort.proofs.Storing.{one_more, two}
use Rattle.prolly_sort.proofs.Telling.{told_behind, told_on}
use Rattle.prolly_sort.proofs.stored_runs.StoredRuns.merge_last.Goals as goal

pub returns-clause-stored : goal.returns-clause-stored
returns-clause-stored g c = λ came keeps stored lawful.
    let seen = g.S.Source.seen in
    let old = c.args.self.now.runs.items in
    let rule = c.args.rule in
    let first = c.len-first.result - 16 in
    let t = two seen rule (take first old) (drop first old) came
    (subst (λ runs. AreStored seen rule runs came) (sym (take-append-drop first old)) stored) in
    let s = c.in_ok-sorted.ensures.sorted t.behind keeps
    (subst (λ runs. AreStored seen rule runs t.behind) (sym c.in_ok-group.ensures.tail) t.others_are)
    (all_back IsRecord t.before t.behind (subst (AllByRecursion IsRecord) t.all lawful)) in
    let run = c.in_ok-run.run' in
    subst (λ runs. AreStored seen rule runs came) (sym (c.in_default.ensures.items ∙
    ap (λ runs. runs ++ run ∷ []) c.in_ok-group.ensures.items))
    (subst (AreStored seen rule (take first old ++ run ∷ [])) (sym t.all)
    (one_more seen rule (take first old) run t.before t.behind t.first_are
    (c.in_ok-run.ensures.run rule t.behind (c.in_ok-sorted.ensures.keeps keeps) s)))

pub returns-in_err-sorted-clause-told : goal.returns-in_err-sorted-clause-told
returns-in_err-sorted-clause-told g c = told_on c.args.rule _ _ _ _ c.from_residual-in_err-sorted.ensures.1
    (λ a b told came keeps stored lawful.
    let seen = g.S.Source.seen in
    let rule = c.args.rule in
    let old = c.args.self.now.runs.items in
    let first = c.len-first.result - 16 in
    let t = two seen rule (take first old) (drop first old) came
    (subst (λ runs. AreStored seen rule runs came) (sym (take-append-drop first old)) stored) in
    subst (λ rs. AreTold rs a b) (sym t.all) (told_behind t.before t.behind a b (told t.behind keeps
    (subst (λ runs. AreStored seen rule runs t.behind) (sym c.in_ok-group.ensures.tail) t.others_are)
    (all_back IsRecord t.before t.behind (subst (AllByRecursion IsRecord) t.all lawful)))))
    c.in_err-sorted.ensures.told
