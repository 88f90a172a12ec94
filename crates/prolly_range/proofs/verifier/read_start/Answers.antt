use Rattle.std.proofs.Common.{◌≡◌, ◌++◌, ◌∙◌, arith, inl, inr, ap, sym, subst}
use Rattle.std.proofs.lemmas.Bool.{cases_Bool}
use Rattle.prolly_range.specs.Start.{IsSetStartFault}
use Rattle.prolly_range.proofs.Starts.{AreFront, wrong_start}
use Rattle.prolly_range.proofs.verifier.read_start.Goals as goal

pub returns-clause-fault : goal.returns-clause-fault
returns-clause-fault g c honest =
    let front = c.read_up_to.new.bytes.items in
    let before = (g.S.Source.seen c.args.source.now).left in
    let after = (g.S.Source.seen c.read_up_to.new.source).left in
    let is : before ≡ front ++ after = ap (λ xs. xs ++ before) (sym c.new-front.ensures.items) ∙
    c.in_ok-read_up_to.ensures.bytes honest in
    let all : AreFront front after = elim (cases_Bool c.in_ok-read_up_to.field-0) [
      | inl over ↦ inl (c.in_ok-read_up_to.ensures.over honest over)
      | inr more ↦ inr (omega (
        arith,
        c.new-front.ensures.items,
        c.read_up_to.new.bytes.ok.0,
        c.in_ok-read_up_to.ensures.enough more,
        c.in_ok-read_up_to.ensures.within,
      ))
    ] in
    subst (λ bytes. IsSetStartFault c.args.version bytes c.in-Err.fault) (sym is)
    (wrong_start c.args.version front after c.in-Err.fault all
    (subst (λ bytes. IsSetStartFault c.args.version bytes c.in-Err.fault) c.deref.ensures.value
    c.in-Err.ensures.err))
