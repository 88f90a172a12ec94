use Rattle.std.proofs.Common.{◌≡◌, ◌∷◌, ◌++◌, ◌∙◌, [], ap, append-nil, map, subst, sym}
use Rattle.prolly_entry.specs.Pair.{Pair}
use Rattle.prolly_entry.specs.Keys.{Rising}
use Rattle.prolly_range.specs.Found.{AreSomeOf}
use Rattle.prolly_range.specs.SortedKeys.{keys_above}
use Rattle.prolly_range.specs.lemmas.Splits.{rising_above}
use Rattle.prolly_answer.specs.KeyLookUps.{found_at, found_lines}
use Rattle.prolly_answer.specs.SetLines.{keys_left}
use Rattle.prolly_answer.proofs.ShownKeys.{left_none, left_step, past_none, some_one_of, some_step}
use Rattle.prolly_answer.proofs.ShownLines.{past_lines, past_more}
use Rattle.prolly_answer.proofs.answers.shown_lines.append_past.Goals as goal

pub append_up_to-requires-clause-one : goal.append_up_to-requires-clause-one
append_up_to-requires-clause-one c =
    let keys = map (λ k. k.items) c.loop-key.left.now in
    let p : Pair = record { key = c.in-Some.key.now; value = c.in-Some.value.now } in
    some_one_of p c.next.new.self keys
    (subst (λ q. AreSomeOf q keys) c.in-Some.ensures.next c.loop-key.invariant.some)

pub loop-key-preserved : goal.loop-key-preserved
loop-key-preserved c =
    let inv = c.loop-key.invariant in
    let notation = c.args.notation in
    let keys = map (λ k. k.items) c.loop-key.left.now in
    let rest = map (λ k. k.items) c.in_ok-left.left.now in
    let p : Pair = record { key = c.in-Some.key.now; value = c.in-Some.value.now } in
    let ps = c.next.new.self in
    let lines = c.loop-key.lines.items in
    let next : c.loop-key.pairs ≡ p ∷ ps = c.in-Some.ensures.next in
    let some : AreSomeOf (p ∷ ps) keys = subst (λ q. AreSomeOf q keys) next inv.some in
    let behind : rest ≡ keys_above p.key keys = c.in_ok-left.ensures.left in
    record {
      rising = subst Rising (sym behind) (rising_above p.key keys inv.rising);
      some = subst (AreSomeOf ps) (sym behind) (some_step p ps keys inv.rising some);
      behind = ap (keys_left ps) behind ∙ sym (left_step p ps keys) ∙
          ap (λ q. keys_left q keys) (sym next) ∙ inv.behind;
      lines = past_more notation p ps keys rest lines c.append_up_to.new.lines.items inv.rising some
          c.in_ok-left.ensures.lines behind ∙
          ap (λ q. lines ++ past_lines notation q keys) (sym next) ∙ inv.lines;
    }

pub returns-clause-left : goal.returns-clause-left
returns-clause-left c =
    let keys = map (λ k. k.items) c.loop-key.left.now in
    sym (left_none keys) ∙ ap (λ q. keys_left q keys) (sym c.in_default.ensures.next) ∙
    c.loop-key.invariant.behind

pub returns-clause-lines : goal.returns-clause-lines
returns-clause-lines c =
    let keys = map (λ k. k.items) c.loop-key.left.now in
    let notation = c.args.notation in
    let lines = c.loop-key.lines.items in
    sym (append-nil lines) ∙
    ap (λ l. lines ++ found_lines notation (found_at [] l)) (sym (past_none keys)) ∙
    ap (λ q. lines ++ past_lines notation q keys) (sym c.in_default.ensures.next) ∙
    c.loop-key.invariant.lines
