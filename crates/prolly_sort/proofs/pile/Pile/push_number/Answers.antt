use Rattle.std.proofs.Common.{◌≡◌, ◌++◌, ◌∷◌, ◌∙◌, ◌<◌, [], ap, arith, length, subst}
use Rattle.std.proofs.lemmas.Result.{on_ok_weaker}
use Rattle.prolly_sort.specs.Shelf.{CameToPile}
use Rattle.prolly_sort.specs.Told.{number_record}
use Rattle.prolly_sort.proofs.pile.Pile.push_number.Goals as goal

pub returns-clause-came : goal.returns-clause-came
returns-clause-came g c = λ came keeps h.
    let count = c.args.self.now.count in
    let few : length came < 0xFFFF_FFFF_FFFF_FFFF = omega (arith, h.count_is, c.if-self.false) in
    let at : count ≡ length came = omega (arith, h.count_is, c.if-self.false) in
    on_ok_weaker c.push.result (λ new. (
      few,
      subst (λ r. CameToPile g.W.Sink.seen g.S.Source.seen c.push.new.self (came ++ r ∷ []))
          (c.in_ok-record.ensures ∙ ap (λ n. number_record n c.args.key.now) at) new,
    )) (c.push.ensures.came came keeps h)
