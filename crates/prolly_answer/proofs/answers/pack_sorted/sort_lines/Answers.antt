use Rattle.std.proofs.Common.{[], ◌++◌, ◌∙◌, Err, ap, subst, sym}
use Rattle.std.proofs.lemmas.Result.{err_from_is_err_and}
use Rattle.prolly_text.specs.RecordLines.{HaveComeOf}
use Rattle.prolly_text.specs.lemmas.RecordLines.{all_have_come}
use Rattle.prolly_sort.specs.Shelf.{is_unique}
use Rattle.prolly_answer.proofs.Sorting.{fault_of_sorter}
use Rattle.prolly_answer.proofs.answers.pack_sorted.sort_lines.Goals as goal

pub returns-in_err-take_line-clause-fault : goal.returns-in_err-take_line-clause-fault
returns-in_err-take_line-clause-fault g c = λ honest.
    let text = (g.S.Source.seen c.args.source.now).left in
    let keeps = g.T.RunStore.keeps c.args.store.now in
    let inv = c.loop-lines.invariant in
    let p = err_from_is_err_and c.from_residual-in_err-take_line.result
    c.from_residual-in_err-take_line.ensures.1 in
    rw (p.1, p.2) (rw (inv.form, inv.unique, inv.failures) at
    (c.in_err-take_line.ensures.fault text keeps inv.keeps (inv.so_far honest)))

pub loop-lines-preserved : goal.loop-lines-preserved
loop-lines-preserved g c =
    let inv = c.loop-lines.invariant in
    let took = c.in_ok-take_line.ensures in
    record {
      form = took.form ∙ inv.form;
      unique = took.unique ∙ inv.unique;
      failures = took.unfailed ∙ inv.failures;
      keeps = λ keeps. took.keeps (inv.keeps keeps);
      so_far = λ honest. took.taken (g.S.Source.seen c.args.source.now).left
          (g.T.RunStore.keeps c.args.store.now) inv.keeps (inv.so_far honest);
    }

pub returns-in_err-sorted-clause-fault : goal.returns-in_err-sorted-clause-fault
returns-in_err-sorted-clause-fault g c = λ honest.
    let text = (g.S.Source.seen c.args.source.now).left in
    let keeps = g.T.RunStore.keeps c.args.store.now in
    let inv = c.loop-lines.invariant in
    let took = c.in_ok-take_line.ensures in
    let lines = c.take_line.new.lines in
    let rest = lines.unparsed ++ (g.S.Source.seen c.take_line.new.source).left in
    let so = took.taken text keeps inv.keeps (inv.so_far honest) in
    let p = err_from_is_err_and c.from_residual-in_err-sorted.result
    c.from_residual-in_err-sorted.ensures.1 in
    rw (p.1, p.2) (fault_of_sorter c.args.form text rest so.records lines.number
    c.in_err-sorted.field-0.0 (is_unique c.args.sorter) _ keeps
    (subst (λ f. HaveComeOf f text rest so.records lines.number) (took.form ∙ inv.form) so.come)
    (λ failed. failed (took.unfailed ∙ inv.failures))
    (λ first second is. (
      sym (took.unique ∙ inv.unique) ∙ c.in_err-sorted.ensures.unique first second (ap Err is),
      λ kept. c.in_err-sorted.ensures.doubled so.records first second (ap Err is)
          (took.keeps (inv.keeps kept)) (so.sorted kept),
    )))

pub returns-clause-sorted : goal.returns-clause-sorted
returns-clause-sorted g c = λ honest.
    let text = (g.S.Source.seen c.args.source.now).left in
    let keeps = g.T.RunStore.keeps c.args.store.now in
    let inv = c.loop-lines.invariant in
    let took = c.in_ok-take_line.ensures in
    let before = inv.so_far honest in
    let so = took.taken text keeps inv.keeps before in
    let lines = c.take_line.new.lines in
    let none = took.all text keeps before c.if-branch.false in
    let form = took.form ∙ inv.form in record {
      unfailed = λ failed. failed (took.unfailed ∙ inv.failures);
      records = so.records;
      are = all_have_come c.args.form text so.records lines.number
          (subst (λ f. HaveComeOf f text [] so.records lines.number) form
          (subst (λ rest. HaveComeOf lines.form text rest so.records lines.number) none so.come));
      sorted = λ kept.
          let later = took.keeps (inv.keeps kept) in
          let sorted = c.in_ok-sorted.ensures.sorted so.records later (so.sorted kept) in record {
            keeping = sorted.holds.keeping;
            taken = sorted.holds.taken;
            settled = sorted.settled;
            len_is = sorted.holds.len_is;
            apart = λ unique. c.in_ok-sorted.ensures.apart so.records later (so.sorted kept)
                (took.unique ∙ inv.unique ∙ unique);
          };
    }
