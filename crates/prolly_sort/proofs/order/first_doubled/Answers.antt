use Rattle.std.proofs.Common.{◌∙◌, ◌-◌, arith, sym}
use Rattle.prolly_sort.proofs.Lasting.{neighbours, rising_more, same_there}
use Rattle.prolly_sort.proofs.order.first_doubled.Goals as goal

pub returns-then-have_one_key-clause-some : goal.returns-then-have_one_key-clause-some
returns-then-have_one_key-clause-some c =
    let places = c.args.places.now in
    let at = c.loop-behind.behind in
    neighbours c.args.bytes.now places at _ _ (omega arith) (omega arith)
    (λ d. same_there places at d _ (omega arith)) (λ d. same_there places (at - 1) d _ (omega arith))
    (sym c.have_one_key.ensures ∙ c.if-have_one_key.true)

pub loop-behind-preserved : goal.loop-behind-preserved
loop-behind-preserved c =
    let places = c.args.places.now in
    let at = c.loop-behind.behind in
    rising_more c.args.bytes.now places at _ _ (omega arith) (omega arith)
    (λ d. same_there places at d _ (omega arith)) (λ d. same_there places (at - 1) d _ (omega arith))
    c.requires (sym c.have_one_key.ensures ∙ c.if-have_one_key.false) c.loop-behind.invariant
