use Rattle.std.proofs.Common.{◌≡◌, true, subst, sym}
use Rattle.std.proofs.lemmas.Result.{IfOk-weaker}
use Rattle.prolly_sort.specs.Shelf.{IsSortedFile}
use Rattle.prolly_sort.specs.Told.{Obeys, numbered}
use Rattle.prolly_sort.proofs.Apart.{apart}
use Rattle.prolly_sort.proofs.Telling.{doubled_numbers, if_ok_always, none_unique, numbers_numbered, told_numbers, told_two}
use Rattle.prolly_sort.proofs.sorter.Sorter.finish.Goals.{in-Some+in_ok-check_keys, in_default}
use Rattle.prolly_sort.proofs.sorter.Sorter.finish.Goals as goal

pub returns-in_err-check_keys-clause-doubled : goal.returns-in_err-check_keys-clause-doubled
returns-in_err-check_keys-clause-doubled g c = λ came first second e keeps h.
    let numbers = rw c.in-Some.is at h.numbers in
    told_numbers came first second numbers.2 (told_two c.in-Some.numbers.rule _ _ _ first second
    c.from_residual.ensures.1 e c.in_err-check_keys.ensures.told (numbered 0 came) keeps numbers.1
    (numbers_numbered came numbers.2))

pub returns-clause-sorted : goal.returns-clause-sorted
returns-clause-sorted g c = λ came keeps h.
    let after : g.T.RunStore.keeps c.match-numbers.store ≡ true = elim c.match-numbers.branch [
      | in-Some+in_ok-check_keys w ↦ subst (λ s. g.T.RunStore.keeps s ≡ true) (sym w.store-is)
          (w.in_ok-check_keys.ensures.keeps keeps)
      | in_default w ↦ subst (λ s. g.T.RunStore.keeps s ≡ true) (sym w.store-is) keeps
    ] in
    IfOk-weaker c.finish.result _ (λ sorted. IsSortedFile g.W.Sink.seen sorted came)
    (λ sorted file. file.0) (c.finish.ensures.sorted came after h.records)

pub returns-clause-apart : goal.returns-clause-apart
returns-clause-apart g c = λ came keeps h unique. elim c.match-numbers.branch [
  | in-Some+in_ok-check_keys w ↦
      let numbers = rw w.in-Some.is at h.numbers in
      let once = w.in_ok-check_keys.ensures.obeys (numbered 0 came) keeps numbers.1 in
      if_ok_always c.finish.result (λ first second two. apart (numbered 0 came) first second
      (doubled_numbers 0 came first second two)
      (subst (λ rule. Obeys rule (numbered 0 came)) numbers.0 once))
  | in_default w ↦ absurd (none_unique c.args.self w.in_default.is unique)
]
