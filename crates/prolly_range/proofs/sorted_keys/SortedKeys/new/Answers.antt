use Rattle.std.proofs.Common.{◌∙◌, ap, sym, arith}
use Rattle.std.specs.Ordering.{is_lt}
use Rattle.prolly_entry.specs.Keys.{key_order}
use Rattle.prolly_range.proofs.Splitting.{falls_there, goes_on}
use Rattle.prolly_range.proofs.sorted_keys.SortedKeys.new.Goals as goal

pub returns-then-not-is_lt-clause-err : goal.returns-then-not-is_lt-clause-err
returns-then-not-is_lt-clause-err c =
    let one = c.index-keys-place.result in
    let next = c.index-keys-place-in-loop-place.result in
    falls_there (λ k. k.items) c.args.keys.now c.loop-place.place one next (omega arith) (omega arith)
    c.index-keys-place.is c.index-keys-place-in-loop-place.is c.loop-place.invariant
    (ap is_lt (ap (λ k. key_order k next.items) (sym c.deref.ensures.value) ∙
    ap (key_order c.deref.result.now) (sym c.deref-in-loop-place.ensures.value) ∙
    sym c.key_order.ensures) ∙ sym c.is_lt.ensures ∙ c.if-not-is_lt.true)

pub loop-place-preserved : goal.loop-place-preserved
loop-place-preserved c =
    let one = c.index-keys-place.result in
    let next = c.index-keys-place-in-loop-place.result in
    goes_on (λ k. k.items) c.args.keys.now c.loop-place.place one next (omega arith) (omega arith)
    c.index-keys-place.is c.index-keys-place-in-loop-place.is c.loop-place.invariant
    (ap is_lt (ap (λ k. key_order k next.items) (sym c.deref.ensures.value) ∙
    ap (key_order c.deref.result.now) (sym c.deref-in-loop-place.ensures.value) ∙
    sym c.key_order.ensures) ∙ sym c.is_lt.ensures ∙ c.if-not-is_lt.false)
