use Rattle.std.proofs.Common.{rules, ◌≡◌, [], arith, inr, length, sym, ◌∙◌}
use Rattle.prolly_check.proofs.FollowerSteps.{end_is_all, going_short, is_none, leaves_are_all, no_items}
use Rattle.prolly_check.proofs.verdict.follower.Follower.finish.Goals as goal

pub returns-then-is_some-clause-ends : goal.returns-then-is_some-clause-ends
returns-then-is_some-clause-ends c = λ read n h.
    end_is_all c.args.self read c.args.self.ending c.args.number c.test_none_due.result
    (sym c.is_some.ensures ∙ c.if-is_some.true) n h c.test_none_due.ensures.none
    c.test_none_due.ensures.some

pub returns-then-not-is_empty-clause-ends : goal.returns-then-not-is_empty-clause-ends
returns-then-not-is_empty-clause-ends c = λ read n h.
    let none = is_none c.args.self.ending (sym c.is_some.ensures ∙ c.if-is_some.false) in
    let some : c.args.self.due.items ≡ [] → ⊥ = λ e. search rules in
    rw n (inr (going_short c.args.self.cut c.args.self.version read c.args.self.nodes.items
    c.args.self.due.items (rw none at h) some))

pub returns-clause-ends : goal.returns-clause-ends
returns-clause-ends c = λ read n h.
    let none = is_none c.args.self.ending (sym c.is_some.ensures ∙ c.if-is_some.false) in
    let size : length c.args.self.due.items ≡ c.args.self.due.len = omega (arith, c.args.self.due.ok.0) in
    let empty : c.args.self.due.items ≡ [] =
    no_items _ _ c.args.self.due.items size c.is_empty.ensures c.if-not-is_empty.false in
    leaves_are_all c.args.self.cut c.args.self.version read c.args.self.nodes.items
    c.args.self.due.items c.close_behind.new.due.items (rw none at h) c.args.number
    c.test_none_due-2.result empty n c.in_ok-close_behind.ensures c.test_none_due-2.ensures.none
    c.test_none_due-2.ensures.some
