use Rattle.std.proofs.Common.{◌∙◌, ap, arith, sym}
use Rattle.std.proofs.lemmas.Result.{err_from_is_err_and}
use Rattle.std.specs.Option.{option_copied}
use Rattle.prolly_tree.specs.LookUp.{find}
use Rattle.prolly_answer.proofs.KeySteps.{key_cut_off}
use Rattle.prolly_answer.proofs.answers.get_keys.write_each.Goals as goal

pub returns-in_err-write_found-clause-err : goal.returns-in_err-write_found-clause-err
returns-in_err-write_found-clause-err g c = λ content is.
    let p = err_from_is_err_and c.from_residual.result c.from_residual.ensures.1 in
    rw (p.1, p.2) (key_cut_off g.W.Sink.seen c.args.notation (λ k. k.items) content.pairs
    c.args.keys.now c.loop-key.key-index c.key-item.result (omega arith) c.key-item.is
    c.deref.result.now c.deref.ensures.value (option_copied c.get.result)
    (c.get.ensures content is ∙ ap (find content.pairs)
    (c.deref-in-loop-key.ensures.value ∙ sym c.deref.ensures.value))
    c.args.sink.now c.loop-key.sink c.write_found.new.sink (c.loop-key.invariant content is)
    c.in_err-write_found.field-0.0 c.in_err-write_found.ensures.err)
