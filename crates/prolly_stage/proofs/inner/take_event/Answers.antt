use Rattle.std.proofs.Common.{◌∷◌, [], ◌∙◌, refl, subst, inl, inr}
use Rattle.std.proofs.lemmas.Result.{on_ok_weaker, on_err_weaker}
use Rattle.prolly_stage.specs.StageStep.{SendsNode, SendsNodeInPart}
use Rattle.prolly_stage.specs.lemmas.Steps.{on_err, sent_both}
use Rattle.prolly_stage.proofs.inner.take_event.Goals as goal

pub returns-in_err-closed-clause-err : goal.returns-in_err-closed-clause-err
returns-in_err-closed-clause-err g c = on_err _ (inl refl)

pub returns-in_err-send_event-clause-err : goal.returns-in_err-send_event-clause-err
returns-in_err-send_event-clause-err g c = on_err _ (inl c.in_err-send_event.ensures.err)

pub returns-clause-ok : goal.returns-clause-ok
returns-clause-ok g c =
    let before = g.O.Out.sent c.args.out.now in
    on_ok_weaker c.send_closed.result
    (λ sent. subst (λ e. SendsNode g.C.Cut.cut c.args.nodes.now c.push.new.self e before
    (g.O.Out.sent c.send_closed.new.out)) c.with_reference-event.ensures (
      c.in_ok-closed.closed,
      c.in_ok-closed.ensures,
      sent_both before (c.with_reference-event.result ∷ []) _ _ _ c.in_ok-send_event.ensures.ok
          sent,
    ))
    c.send_closed.ensures.ok

pub returns-clause-err : goal.returns-clause-err
returns-clause-err g c =
    let before = g.O.Out.sent c.args.out.now in
    on_err_weaker c.send_closed.result
    (λ same. subst (λ e. SendsNodeInPart g.C.Cut.cut c.args.nodes.now c.push.new.self e before
    (g.O.Out.sent c.send_closed.new.out)) c.with_reference-event.ensures
    (inr (c.in_ok-closed.closed, c.in_ok-closed.ensures, same ∙ c.in_ok-send_event.ensures.ok)))
    c.send_closed.ensures.err
