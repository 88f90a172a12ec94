use Rattle.std.proofs.Common.{◌∙◌, arith, refl, sym}
use Rattle.std.proofs.lemmas.Result.{err_from_is_err_and}
use Rattle.prolly_answer.proofs.KeySteps.{asking_begins, asking_cut_off, asking_fails, asks_on}
use Rattle.prolly_answer.proofs.Readers.{fault_told, looks_first, looks_on, value_found}
use Rattle.prolly_answer.proofs.answers.root_get_keys.write_each.Goals as goal

pub loop-key-init : goal.loop-key-init
loop-key-init g c = record { looks = looks_first; reads = refl; asking = asking_begins }

pub returns-in_err-value-clause-found : goal.returns-in_err-value-clause-found
returns-in_err-value-clause-found g c =
    let inv = c.loop-key.invariant in
    let p = err_from_is_err_and c.from_residual.result c.from_residual.ensures.1 in
    rw (p.1, p.2) (asking_fails inv.asking (omega arith) c.key-item.is c.deref.ensures.value
    (λ left. fault_told inv.looks c.in_err-value.ensures.looked refl))

pub returns-in_err-write_found-clause-found : goal.returns-in_err-write_found-clause-found
returns-in_err-write_found-clause-found g c =
    let inv = c.loop-key.invariant in
    let p = err_from_is_err_and c.from_residual-in_err-write_found.result
    c.from_residual-in_err-write_found.ensures.1 in
    let one = value_found inv.looks c.in_ok-value.ensures.looked
    (c.deref.ensures.value ∙ sym c.deref-in-loop-key.ensures.value) (sym c.as_deref.ensures.value)
    c.in_ok-value.ensures.found in
    rw (p.1, p.2) (asking_cut_off inv.asking (omega arith) c.key-item.is
    c.deref-in-loop-key.ensures.value one c.in_err-write_found.ensures.err)

pub loop-key-preserved : goal.loop-key-preserved
loop-key-preserved g c =
    let inv = c.loop-key.invariant in
    let one = value_found inv.looks c.in_ok-value.ensures.looked
    (c.deref.ensures.value ∙ sym c.deref-in-loop-key.ensures.value) (sym c.as_deref.ensures.value)
    c.in_ok-value.ensures.found in
    record {
      looks = looks_on inv.looks c.in_ok-value.ensures.looked;
      reads = c.in_ok-value.ensures.looked.asked.1 ∙ inv.reads;
      asking = asks_on inv.asking (omega arith) c.key-item.is c.deref-in-loop-key.ensures.value one
          c.in_ok-write_found.ensures.ok c.write_found.ensures.keeping;
    }
