use Rattle.std.proofs.Common.{◌<◌, get_or, length, sym, subst, ◌∙◌, ap, rules}
use Rattle.std.proofs.lemmas.List.Sorted.{answers_always}
use Rattle.prolly_entry.specs.Keys.{key_order}
use Rattle.prolly_entry.specs.lemmas.Orders.{order_same}
use Rattle.prolly_check.specs.Chunks.{HasAt}
use Rattle.prolly_check.proofs.IndexSteps.{each_right, search_ends}
use Rattle.prolly_check.proofs.chunks.Index.find.Goals as goal

pub returns-in-Ok : goal.returns-in-Ok
returns-in-Ok c = λ chunks i.
    let entries = c.args.self.now.entries.items in
    let offset = c.in-Ok.offset in
    let found = c.in-Ok.ensures.position (λ e. e.0) (answers_always _ _ _ (λ f a r g called.
    search rules)) in
    let entry = c.index.result.now in
    subst (HasAt chunks entry.1) (order_same entry.0.0 c.args.reference.now.0
    (ap (λ e. key_order e.0.0 c.args.reference.now.0)
    (c.index.ensures ∙ ap (λ es. get_or es offset entry) (sym c.deref.ensures.value)) ∙ found entry))
    (subst (λ e. HasAt chunks e.1 e.0.0) (sym c.index.ensures)
    (each_right c.args.self.now chunks i offset entry
    (subst (λ es. offset < length es) c.deref.ensures.value c.in-Ok.ensures.bound)))

pub returns-in-Err : goal.returns-in-Err
returns-in-Err c = λ chunks i number has.
    let ends = c.in-Err.ensures.position (λ e. e.0) (answers_always _ _ _ (λ f a r g called.
    search rules)) in
    search_ends c.args.self.now chunks i c.args.reference.now.0 c.in-Err.field-0 number
    (rw c.deref.ensures.value at ends) has
