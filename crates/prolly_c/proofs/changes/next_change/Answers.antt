use Rattle.std.proofs.Common.{[], refl, subst}
use Rattle.prolly_tree.specs.Walks.{Maps}
use Rattle.prolly_tree.specs.lemmas.Walks.{added, alike_more, alike_one, changed, differ}
use Rattle.prolly_tree.specs.lemmas.Walks.{maps_behind, no_change, removed, same}
use Rattle.prolly_c.specs.Changes.{TakesAs, pair_is}
use Rattle.prolly_c.proofs.changes.next_change.Goals as goal

pub loop-pair-init : goal.loop-pair-init
loop-pair-init c = λ maps ms are.
    (maps, record { shared = []; before_is = refl; after_is = refl }, are)

pub returns-in_err-pair : goal.returns-in_err-pair
returns-in_err-pair c = λ maps ms are.
    let mid = c.loop-pair.invariant maps ms are in
    absurd (c.in_err-pair.ensures.takes mid.0 (maps_behind maps mid.0 mid.1 ms) mid.2)

pub returns-in-Old : goal.returns-in-Old
returns-in-Old c = λ maps ms are.
    let mid = c.loop-pair.invariant maps ms are in
    let step = subst (TakesAs c.args.old.now c.args.old_runs.now c.args.new.now c.args.new_runs.now
    mid.0) c.in-Old.is
    (c.in_ok-pair.ensures.takes mid.0 (maps_behind maps mid.0 mid.1 ms) mid.2) in
    (step.0, removed maps mid.0 step.0 (pair_is c.in-Old.pair) ms mid.1 step.1, step.2)

pub returns-in-New : goal.returns-in-New
returns-in-New c = λ maps ms are.
    let mid = c.loop-pair.invariant maps ms are in
    let step = subst (TakesAs c.args.old.now c.args.old_runs.now c.args.new.now c.args.new_runs.now
    mid.0) c.in-New.is
    (c.in_ok-pair.ensures.takes mid.0 (maps_behind maps mid.0 mid.1 ms) mid.2) in
    (step.0, added maps mid.0 step.0 (pair_is c.in-New.pair) ms mid.1 step.1, step.2)

pub returns-then-ne : goal.returns-then-ne
returns-then-ne c = λ maps ms are.
    let mid = c.loop-pair.invariant maps ms are in
    let step = subst (TakesAs c.args.old.now c.args.old_runs.now c.args.new.now c.args.new_runs.now
    mid.0) c.in-Both.is
    (c.in_ok-pair.ensures.takes mid.0 (maps_behind maps mid.0 mid.1 ms) mid.2) in (
      step.0,
      changed maps mid.0 step.0 (pair_is c.in-Both.before) (pair_is c.in-Both.after) ms mid.1 step.1
          (differ c.in-Both.before.1.now c.in-Both.after.1.now c.ne.result c.ne.ensures
          c.if-ne.true),
      step.2,
    )

pub loop-pair-preserved : goal.loop-pair-preserved
loop-pair-preserved c = λ maps ms are.
    let mid = c.loop-pair.invariant maps ms are in
    let step = subst (TakesAs c.args.old.now c.args.old_runs.now c.args.new.now c.args.new_runs.now
    mid.0) c.in-Both.is
    (c.in_ok-pair.ensures.takes mid.0 (maps_behind maps mid.0 mid.1 ms) mid.2) in (
      step.0,
      alike_more maps mid.0 step.0 mid.1
          (alike_one mid.0 step.0 (pair_is c.in-Both.before) (pair_is c.in-Both.after) step.1
          (same c.in-Both.before.1.now c.in-Both.after.1.now c.ne.result c.ne.ensures
          c.if-ne.false)),
      step.2,
    )

pub returns-in-Neither : goal.returns-in-Neither
returns-in-Neither c = λ maps ms are.
    let mid = c.loop-pair.invariant maps ms are in
    let step = subst (TakesAs c.args.old.now c.args.old_runs.now c.args.new.now c.args.new_runs.now
    mid.0) c.in-Neither.is
    (c.in_ok-pair.ensures.takes mid.0 (maps_behind maps mid.0 mid.1 ms) mid.2) in
    let rest : Maps = record { before = []; after = [] } in
    (no_change maps mid.0 rest ms mid.1 (step.0, step.1, refl, refl)).same
