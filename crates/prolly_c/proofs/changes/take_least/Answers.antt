use Rattle.std.proofs.Common.{sym, ◌∙◌, subst}
use Rattle.prolly_entry.specs.lemmas.Orders.{greater_below}
use Rattle.prolly_tree.specs.lemmas.Maps.{Above}
use Rattle.prolly_c.proofs.Sides.{above_map, takes_both, takes_new, takes_old}
use Rattle.prolly_c.specs.Changes.{pair_is}
use Rattle.prolly_c.specs.Cursor.{Steps}
use Rattle.prolly_c.proofs.changes.take_least.Goals as goal

pub returns-in_err-before-clause-takes : goal.returns-in_err-before-clause-takes
returns-in_err-before-clause-takes c = λ maps ms are.
    absurd (c.in_err-before.ensures.steps maps.before are.old_at)

pub returns-in_err-after-clause-takes : goal.returns-in_err-after-clause-takes
returns-in_err-after-clause-takes c = λ maps ms are.
    absurd (c.in_err-after.ensures.steps maps.after are.new_at)

pub returns-in-Some-None-clause-takes : goal.returns-in-Some-None-clause-takes
returns-in-Some-None-clause-takes c = λ maps ms are.
    let step = subst (Steps c.args.old.now c.args.old_runs.now maps.before) c.in-Some-None.is-0
    (c.in_ok-before.ensures.steps maps.before are.old_at) in
    let none = subst (Steps c.args.new.now c.args.new_runs.now maps.after) c.in-Some-None.is-1
    (c.in_ok-after.ensures.steps maps.after are.new_at) in
    takes_old c.args.old.now c.args.old_runs.now c.args.new.now c.args.new_runs.now c.args.at maps
    c.in-Some-None.pair c.in-Some-None.behind are step
    (subst (Above c.in-Some-None.pair.0.now) (sym none) tt)

pub returns-in-None-Some-clause-takes : goal.returns-in-None-Some-clause-takes
returns-in-None-Some-clause-takes c = λ maps ms are.
    let none = subst (Steps c.args.old.now c.args.old_runs.now maps.before) c.in-None-Some.is-0
    (c.in_ok-before.ensures.steps maps.before are.old_at) in
    let step = subst (Steps c.args.new.now c.args.new_runs.now maps.after) c.in-None-Some.is-1
    (c.in_ok-after.ensures.steps maps.after are.new_at) in
    takes_new c.args.old.now c.args.old_runs.now c.args.new.now c.args.new_runs.now c.args.at maps
    c.in-None-Some.pair c.in-None-Some.behind are step
    (subst (Above c.in-None-Some.pair.0.now) (sym none) tt)

pub returns-in-Less-clause-takes : goal.returns-in-Less-clause-takes
returns-in-Less-clause-takes c = λ maps ms are.
    let step = subst (Steps c.args.old.now c.args.old_runs.now maps.before) c.in-Some-Some.is-0
    (c.in_ok-before.ensures.steps maps.before are.old_at) in
    let other = subst (Steps c.args.new.now c.args.new_runs.now maps.after) c.in-Some-Some.is-1
    (c.in_ok-after.ensures.steps maps.after are.new_at) in
    takes_old c.args.old.now c.args.old_runs.now c.args.new.now c.args.new_runs.now c.args.at maps
    c.in-Some-Some.one c.in-Some-Some.one_behind are step
    (above_map c.in-Some-Some.one.0.now maps.after (pair_is c.in-Some-Some.other) other.0 other.1
    ms.1 (sym c.key_order.ensures ∙ c.in-Less.is))

pub returns-in-Greater-clause-takes : goal.returns-in-Greater-clause-takes
returns-in-Greater-clause-takes c = λ maps ms are.
    let one = subst (Steps c.args.old.now c.args.old_runs.now maps.before) c.in-Some-Some.is-0
    (c.in_ok-before.ensures.steps maps.before are.old_at) in
    let step = subst (Steps c.args.new.now c.args.new_runs.now maps.after) c.in-Some-Some.is-1
    (c.in_ok-after.ensures.steps maps.after are.new_at) in
    takes_new c.args.old.now c.args.old_runs.now c.args.new.now c.args.new_runs.now c.args.at maps
    c.in-Some-Some.other c.in-Some-Some.other_behind are step
    (above_map c.in-Some-Some.other.0.now maps.before (pair_is c.in-Some-Some.one) one.0 one.1
    ms.0 (greater_below c.in-Some-Some.one.0.now c.in-Some-Some.other.0.now
    (sym c.key_order.ensures ∙ c.in-Greater.is)))

pub returns-in-Equal-clause-takes : goal.returns-in-Equal-clause-takes
returns-in-Equal-clause-takes c = λ maps ms are.
    let one = subst (Steps c.args.old.now c.args.old_runs.now maps.before) c.in-Some-Some.is-0
    (c.in_ok-before.ensures.steps maps.before are.old_at) in
    let other = subst (Steps c.args.new.now c.args.new_runs.now maps.after) c.in-Some-Some.is-1
    (c.in_ok-after.ensures.steps maps.after are.new_at) in
    takes_both c.args.old.now c.args.old_runs.now c.args.new.now c.args.new_runs.now maps
    c.in-Some-Some.one c.in-Some-Some.other c.in-Some-Some.one_behind c.in-Some-Some.other_behind
    one other (sym c.key_order.ensures ∙ c.in-Equal.is)

pub returns-in-None-None-clause-takes : goal.returns-in-None-None-clause-takes
returns-in-None-None-clause-takes c = λ maps ms are. (
  subst (Steps c.args.old.now c.args.old_runs.now maps.before) c.in-None-None.is-0
      (c.in_ok-before.ensures.steps maps.before are.old_at),
  subst (Steps c.args.new.now c.args.new_runs.now maps.after) c.in-None-None.is-1
      (c.in_ok-after.ensures.steps maps.after are.new_at),
)
