use Rattle.std.proofs.Common.{◌≡◌, sym, ◌∙◌, subst}
use Rattle.prolly_merge.specs.Peeked.{Advances}
use Rattle.prolly_merge.specs.Head.{in_hand}
use Rattle.prolly_merge.specs.Turn.{IsTurn}
use Rattle.prolly_merge.proofs.Turns.{step_left, step_right, step_both}
use Rattle.prolly_merge.proofs.two.next_of_two.Goals as goal
use Rattle.prolly_merge.proofs.two.next_of_two.Goals.{in-Left, in-Right, in-Both}

pub returns : goal.returns
returns g c =
    let l = c.args.left.now in
    let r = c.args.right.now in
    let l' = c.match-turn_of.left in
    let r' = c.match-turn_of.right in
    let s = c.in-Ready.record in
    elim c.match-turn_of.branch [
      | in-Left w ↦ step_left g.I.In.link g.I.In.progress g.I.In.Follows g.I.In.received
          g.met.I.In.stays g.met.I.In.received_none l r s l' r'
          (subst (IsTurn l.head r.head) w.in-Left.is c.turn_of.ensures)
          (sym w.next-head.ensures.given ∙ sym w.head-is ∙ c.in-Ready.is)
          (subst (λ p. Advances g.I.In.link g.I.In.progress g.I.In.Follows l p ×
          (g.I.In.received l.input p.input ≡ in_hand p.head)) (sym w.left-is)
          (w.next-head.ensures.advances, w.next-head.ensures.received))
          w.right-is
      | in-Right w ↦ step_right g.I.In.link g.I.In.progress g.I.In.Follows g.I.In.received
          g.met.I.In.stays g.met.I.In.received_none l r s l' r'
          (subst (IsTurn l.head r.head) w.in-Right.is c.turn_of.ensures)
          (sym w.next-head-in-Right.ensures.given ∙ sym w.head-is ∙ c.in-Ready.is)
          w.left-is
          (subst (λ p. Advances g.I.In.link g.I.In.progress g.I.In.Follows r p ×
          (g.I.In.received r.input p.input ≡ in_hand p.head)) (sym w.right-is)
          (w.next-head-in-Right.ensures.advances, w.next-head-in-Right.ensures.received))
      | in-Both w ↦ step_both g.I.In.link g.I.In.progress g.I.In.Follows g.I.In.received
          g.met.I.In.stays g.met.I.In.received_none l r s l' r'
          (subst (IsTurn l.head r.head) w.in-Both.is c.turn_of.ensures)
          (sym w.next-head-in-Both.ensures.given ∙ sym w.head-is ∙ c.in-Ready.is)
          (subst (λ p. Advances g.I.In.link g.I.In.progress g.I.In.Follows l p ×
          (g.I.In.received l.input p.input ≡ in_hand p.head)) (sym w.left-is)
          (w.next.ensures.advances, w.next.ensures.received))
          (subst (λ p. Advances g.I.In.link g.I.In.progress g.I.In.Follows r p ×
          (g.I.In.received r.input p.input ≡ in_hand p.head)) (sym w.right-is)
          (w.next-head-in-Both.ensures.advances, w.next-head-in-Both.ensures.received))
    ]
