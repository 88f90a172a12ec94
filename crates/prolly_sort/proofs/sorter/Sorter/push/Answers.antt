use Rattle.std.proofs.Common.{◌≡◌, ◌∷◌, ◌∙◌, [], arith, length-append, true, subst, sym}
use Rattle.std.proofs.lemmas.Result.{on_ok_weaker}
use Rattle.prolly_sort.specs.Shelf.{CameToPile}
use Rattle.prolly_sort.specs.Told.{numbered}
use Rattle.prolly_sort.proofs.Telling.{numbered_length, numbers_more, numbers_numbered, told_numbers, told_two}
use Rattle.prolly_sort.proofs.sorter.Sorter.push.Goals.{in-Some+in_ok-push_number, in_default}
use Rattle.prolly_sort.proofs.sorter.Sorter.push.Goals as goal

pub returns-in_err-push_number-clause-doubled : goal.returns-in_err-push_number-clause-doubled
returns-in_err-push_number-clause-doubled g c = λ came first second e keeps h.
    let numbers = rw c.in-Some.is at h.numbers in
    told_numbers came first second numbers.2 (told_two c.in-Some.numbers.rule _ _ _ first second
    c.from_residual.ensures.1 e c.in_err-push_number.ensures.told (numbered 0 came) keeps numbers.1
    (numbers_numbered came numbers.2))

pub returns-clause-came : goal.returns-clause-came
returns-clause-came g c = λ came keeps h.
    let after : g.T.RunStore.keeps c.match-self.store ≡ true = elim c.match-self.branch [
      | in-Some+in_ok-push_number w ↦ subst (λ s. g.T.RunStore.keeps s ≡ true) (sym w.store-is)
          (w.in_ok-push_number.ensures.keeps keeps)
      | in_default w ↦ subst (λ s. g.T.RunStore.keeps s ≡ true) (sym w.store-is) keeps
    ] in
    on_ok_weaker c.push.result (λ new. record {
      records = new;
      numbers = elim c.match-self.branch [
        | in-Some+in_ok-push_number w ↦ rw w.self-is (
            let numbers = rw w.in-Some.is at h.numbers in
            let more = w.in_ok-push_number.ensures in
            let pushed = (rw w.key.ensures.key at more.came) (numbered 0 came) keeps numbers.1 in (
              more.rule ∙ numbers.0,
              subst (CameToPile g.W.Sink.seen g.S.Source.seen w.push_number.new.self)
                  (numbers_more came c.args.record.now) pushed.1,
              omega (
                arith,
                pushed.0,
                numbered_length 0 came,
                length-append came (c.args.record.now ∷ []),
              ),
            ))
        | in_default w ↦ rw (w.self-is, w.in_default.is) tt
      ];
    }) (c.push.ensures.came came after h.records)
