use Rattle.std.proofs.Common.{◌≡◌, [], ◌∷◌, ◌++◌, ◌+◌, Err, IsErrOf, Result, ap, refl, subst, sym}
use Rattle.std.proofs.lemmas.Result.{err_from_is_err_and}
use Rattle.prolly_text.specs.declared.lines.reader.ReadLinesFault.{ReadLinesFault}
use Rattle.prolly_text.specs.RecordLines.{HaveComeOf}
use Rattle.prolly_text.specs.lemmas.RecordLines.{one_more_has_come}
use Rattle.prolly_sort.specs.Shelf.{is_unique}
use Rattle.prolly_answer.proofs.Sorting.{fault_of_sorter, fault_of_text}
use Rattle.prolly_answer.proofs.answers.pack_sorted.take_line.Goals as goal

same_fault : {T : Type 0} (r : Result T ReadLinesFault) (f e : ReadLinesFault) → r ≡ Err f →
    IsErrOf r e → f ≡ e
same_fault r f e h k = cc

pub returns-in_err-record-clause-fault : goal.returns-in_err-record-clause-fault
returns-in_err-record-clause-fault g c = λ text keeps kept so.
    let p = err_from_is_err_and c.from_residual.result c.from_residual.ensures.1 in
    let lines = c.args.lines.now in
    rw (p.1, p.2) (fault_of_text lines.form text
    (lines.unparsed ++ (g.S.Source.seen c.args.source.now).left) so.records lines.number
    c.in_err-record.field-0.0 (is_unique c.args.sorter.now) _ keeps so.come (c.in_err-record.ensures.given so.honest).0
    (λ read. c.in_err-record.ensures.read.0 (ap Err read))
    (λ other failed. other (same_fault _ _ _ refl (c.in_err-record.ensures.read.1 failed))))

pub returns-in_err-push-clause-fault : goal.returns-in_err-push-clause-fault
returns-in_err-push-clause-fault g c = λ text keeps kept so.
    let p = err_from_is_err_and c.from_residual-in_err-push.result
    c.from_residual-in_err-push.ensures.1 in
    let lines = c.args.lines.now in
    rw (p.1, p.2) (fault_of_sorter lines.form text
    (lines.unparsed ++ (g.S.Source.seen c.args.source.now).left) so.records lines.number
    c.in_err-push.field-0.0 (is_unique c.args.sorter.now) _ keeps so.come
    (λ failed. failed c.in_ok-record.ensures.unfailed)
    (λ first second is. (
      c.in_err-push.ensures.unique first second (ap Err is),
      λ h. c.in_err-push.ensures.doubled so.records first second (ap Err is) (kept h) (so.sorted h),
    )))

pub returns-clause-taken : goal.returns-clause-taken
returns-clause-taken g c = λ text keeps kept so.
    let lines = c.args.lines.now in
    let r = c.in-Some.record in
    let rest = lines.unparsed ++ (g.S.Source.seen c.args.source.now).left in
    let rest' = c.next.new.self.unparsed ++ (g.S.Source.seen c.next.new.source).left in
    let gives = rw c.in-Some.is at (c.in_ok-record.ensures.given so.honest) in
    record {
      honest = c.in_ok-record.ensures.honest so.honest;
      records = so.records ++ r ∷ [];
      come = subst (λ n. HaveComeOf c.next.new.self.form text rest' (so.records ++ r ∷ []) n)
          (sym (rw c.in-Some.is at c.in_ok-record.ensures.number))
          (subst (λ form. HaveComeOf form text rest' (so.records ++ r ∷ []) (lines.number + 1))
          (sym c.in_ok-record.ensures.form)
          (one_more_has_come lines.form text rest rest' gives.line so.records lines.number r so.come
          gives.whole gives.stands));
      sorted = λ h. c.in_ok-push.ensures.came so.records (kept h) (so.sorted h);
    }
