use Rattle.std.proofs.Common.{◌≡◌, ◌∷◌, ◌++◌, ◌∙◌, Some, None, true, false, ap, map, subst, sym}
use Rattle.std.specs.Ordering.{is_eq}
use Rattle.prolly_entry.specs.Pair.{Pair}
use Rattle.prolly_entry.specs.Keys.{Rising, key_order}
use Rattle.prolly_range.specs.SortedKeys.{is_one_of, keys_above}
use Rattle.prolly_range.specs.lemmas.Splits.{rising_tail}
use Rattle.prolly_answer.specs.KeyLookUps.{found_line}
use Rattle.prolly_answer.proofs.ShownLines.{lines_up_to, other_above, other_lines, other_one, same_above}
use Rattle.prolly_answer.proofs.ShownLines.{same_lines}
use Rattle.prolly_answer.proofs.answers.shown_lines.append_up_to.Goals as goal

pub returns-then-is_eq-clause-left : goal.returns-then-is_eq-clause-left
returns-then-is_eq-clause-left c =
    let inv = c.loop-first.invariant in
    let key = c.args.key.now in
    let k = c.in-Some.first.now.items in
    let ks = map (λ k. k.items) c.in-Some.rest.now in
    let is : map (λ k. k.items) c.loop-first.left.now ≡ k ∷ ks =
    ap (map (λ k. k.items)) c.in-Some.ensures.cases.0 in
    let same : is_eq (key_order k key) ≡ true =
    subst (λ x. is_eq (key_order x key) ≡ true) c.deref.ensures.value
    (ap is_eq (sym c.key_order.ensures) ∙ sym c.is_eq.ensures ∙ c.if-is_eq.true) in
    same_above (record { key = key; value = c.args.value.now }) k ks (subst Rising is inv.rising)
    (subst (λ l. is_one_of l key ≡ true) is inv.one) same ∙
    ap (keys_above key) (sym is) ∙ inv.behind

pub returns-then-is_eq-clause-lines : goal.returns-then-is_eq-clause-lines
returns-then-is_eq-clause-lines c =
    let inv = c.loop-first.invariant in
    let key = c.args.key.now in
    let notation = c.args.notation in
    let p : Pair = record { key = key; value = c.args.value.now } in
    let k = c.in-Some.first.now.items in
    let ks = map (λ k. k.items) c.in-Some.rest.now in
    let lines = c.loop-first.lines.items in
    let is : map (λ k. k.items) c.loop-first.left.now ≡ k ∷ ks =
    ap (map (λ k. k.items)) c.in-Some.ensures.cases.0 in
    let same : is_eq (key_order k key) ≡ true =
    subst (λ x. is_eq (key_order x key) ≡ true) c.deref.ensures.value
    (ap is_eq (sym c.key_order.ensures) ∙ sym c.is_eq.ensures ∙ c.if-is_eq.true) in
    same_lines p k ks (subst Rising is inv.rising) (subst (λ l. is_one_of l key ≡ true) is inv.one)
    same notation lines c.append_found.new.line.items
    (subst (λ x. c.append_found.new.line.items ≡
    lines ++ found_line notation (record { key = x; value = Some c.args.value.now }))
    c.deref-then-is_eq.ensures.value c.in_ok-append_found.ensures) ∙
    ap (λ l. lines ++ lines_up_to notation p l) (sym is) ∙ inv.lines

pub loop-first-preserved : goal.loop-first-preserved
loop-first-preserved c =
    let inv = c.loop-first.invariant in
    let key = c.args.key.now in
    let notation = c.args.notation in
    let p : Pair = record { key = key; value = c.args.value.now } in
    let k = c.in-Some.first.now.items in
    let ks = map (λ k. k.items) c.in-Some.rest.now in
    let lines = c.loop-first.lines.items in
    let more = c.append_found-in-Some.new.line.items in
    let is : map (λ k. k.items) c.loop-first.left.now ≡ k ∷ ks =
    ap (map (λ k. k.items)) c.in-Some.ensures.cases.0 in
    let other : is_eq (key_order k key) ≡ false =
    subst (λ x. is_eq (key_order x key) ≡ false) c.deref.ensures.value
    (ap is_eq (sym c.key_order.ensures) ∙ sym c.is_eq.ensures ∙ c.if-is_eq.false) in
    let h : Rising (k ∷ ks) = subst Rising is inv.rising in
    let one : is_one_of (k ∷ ks) key ≡ true = subst (λ l. is_one_of l key ≡ true) is inv.one in
    record {
      rising = rising_tail k ks h;
      one = other_one p k ks h one other;
      behind = sym (other_above p k ks h one other) ∙ ap (keys_above key) (sym is) ∙ inv.behind;
      lines = other_lines p k ks h one other notation lines more
          (subst (λ x. more ≡ lines ++ found_line notation (record { key = x; value = None }))
          c.deref-in-Some.ensures.value c.in_ok-append_found-2.ensures) ∙
          ap (λ l. lines ++ lines_up_to notation p l) (sym is) ∙ inv.lines;
    }
