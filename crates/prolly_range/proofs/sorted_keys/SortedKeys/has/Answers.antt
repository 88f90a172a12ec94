use Rattle.std.proofs.Common.{inl, refl, ◌∙◌, sym, ap, subst}
use Rattle.std.specs.List.{AllByRecursion}
use Rattle.std.specs.Option.{option_copied}
use Rattle.std.specs.Ordering.{is_eq}
use Rattle.prolly_entry.specs.Keys.{key_order}
use Rattle.prolly_range.specs.KeySet.{keys_in}
use Rattle.prolly_range.specs.SortedKeys.{is_one_of}
use Rattle.prolly_range.proofs.Splitting.{IsUpTo, all_up_to, has_last, has_none, one_up_to}
use Rattle.prolly_range.proofs.sorted_keys.SortedKeys.has.Goals as goal

pub returns-in-None : goal.returns-in-None
returns-in-None c =
    let keys = keys_in c.args.self in
    let key = c.args.key.now in
    sym (one_up_to key key (inl refl) keys ∙ ap (λ ks. is_one_of ks key) (sym c.split.ensures.up_to) ∙
    has_none (λ k. k.items) key c.split.result.0.keys.now
    (sym c.last.ensures.value ∙ ap option_copied c.in-None.is))

pub returns-in-Some : goal.returns-in-Some
returns-in-Some c =
    let keys = keys_in c.args.self in
    let key = c.args.key.now in
    let up_to = c.split.result.0 in
    c.is_eq.ensures ∙ ap is_eq (c.key_order.ensures ∙ ap (λ k. key_order k key) c.deref.ensures.value) ∙
    sym (one_up_to key key (inl refl) keys ∙ ap (λ ks. is_one_of ks key) (sym c.split.ensures.up_to) ∙
    has_last (λ k. k.items) key up_to.keys.now c.in-Some.last.now
    (sym c.last.ensures.value ∙ ap option_copied c.in-Some.is) up_to.rising
    (subst (AllByRecursion (IsUpTo key)) (sym c.split.ensures.up_to) (all_up_to key keys)))
