use Rattle.std.proofs.Common.{ap, ◌∙◌, sym, arith, refl}
use Rattle.std.proofs.lemmas.Result.{err_from_is_err_and, on_ok_weaker}
use Rattle.prolly_entry.specs.Record.{Record}
use Rattle.prolly_link.specs.Views.{Batching, Whole}
use Rattle.prolly_build.specs.RunResult.{IsUnsent}
use Rattle.prolly_build.proofs.ForkSteps.{forked_one, forked_all, forked_maps, same_length}
use Rattle.prolly_build.proofs.RanSteps.{nothing_begun, unmet_hands_on}
use Rattle.prolly_build.proofs.FeedingSteps.{fed_by_loaders, fed_by_merger, merges_met}
use Rattle.prolly_build.proofs.run.mergers.+merge_tree.Goals as goal

pub returns-in_default-start : goal.returns-in_default-start
returns-in_default-start g t c = record {
  fed = tt;
  hands_on = record {
    written = tt;
    refused = λ _. refl;
    begun = nothing_begun c.args.site.now.config _;
  };
}

pub returns-in_default-clause-fed : goal.returns-in_default-clause-fed
returns-in_default-clause-fed g t c =
    on_ok_weaker c.load_all.result (fed_by_loaders g.S.Source.seen _ _ _ _ _)
    c.load_all.ensures.loaded

pub start-requires-clause-ready : goal.start-requires-clause-ready
start-requires-clause-ready g t c κs within =
    rw c.merger_of-job.ensures.job (c.in-Some.fork.left.unreceived, c.in-Some.fork.right.unreceived)

pub start-requires-clause-unsent : goal.start-requires-clause-unsent
start-requires-clause-unsent g t c κs within =
    forked_one IsUnsent c.fork_at-out.ensures.items c.requires.unsent

pub merge_tree-wrote-requires-clause-unsent : goal.merge_tree-wrote-requires-clause-unsent
merge_tree-wrote-requires-clause-unsent g t c κs within =
    forked_all IsUnsent c.fork_at-out.ensures.items c.requires.unsent
    (ap (λ o. o.items) c.merger_of-job.ensures.left ∙ c.in-Some.fork.left.unsent)
    (ap (λ o. o.items) c.merger_of-job.ensures.right ∙ c.in-Some.fork.right.unsent)

pub join_at-requires : goal.join_at-requires
join_at-requires g t c =
    let same = same_length (λ (s : Whole Record). s.link) (λ (o : Batching Record). o.link)
    c.merge_tree-wrote.new.closed.items c.fork_at-out.new.list.items
    c.in_ok-wrote.ensures.fed.links in
    omega (
      arith,
      same,
      c.merge_tree-wrote.new.closed.ok.0,
      c.fork_at-out.new.list.ok.0,
      c.fork_at-out.ensures.len,
      c.place_of_merger-place.ensures,
      c.len.ensures,
      c.len-number.ensures,
      c.requires.each,
      c.in-Some.ensures.len,
      c.in-Some.ensures.cases,
    )

pub meet_two-requires-clause-left : goal.meet_two-requires-clause-left
meet_two-requires-clause-left g t c =
    let m = forked_maps (λ (s : Whole Record). s.link) (λ (o : Batching Record). o.link)
    c.join_at.ensures.items c.fork_at-out.ensures.items c.in_ok-wrote.ensures.fed.links in
    let merger = c.merger_of-job.ensures in
    m.0 ∙ (ap (λ o. o.link) merger.left ∙ (c.in-Some.fork.left.paired ∙
    sym (c.join-inputs.ensures.reads_left ∙
    ap (λ j. j.left.link) (c.in-Some-start.ensures.job ∙ merger.job))))

pub meet_two-requires-clause-right : goal.meet_two-requires-clause-right
meet_two-requires-clause-right g t c =
    let m = forked_maps (λ (s : Whole Record). s.link) (λ (o : Batching Record). o.link)
    c.join_at.ensures.items c.fork_at-out.ensures.items c.in_ok-wrote.ensures.fed.links in
    let merger = c.merger_of-job.ensures in
    m.1 ∙ (ap (λ o. o.link) merger.right ∙ (c.in-Some.fork.right.paired ∙
    sym (c.join-inputs.ensures.reads_right ∙
    ap (λ j. j.right.link) (c.in-Some-start.ensures.job ∙ merger.job))))

pub returns-clause-fed : goal.returns-clause-fed
returns-clause-fed g t c =
    fed_by_merger g.S.Source.seen _ _ _ _ _ _ _ _ _ _ _ _ _ _
    c.in_ok-wrote.ensures.fed c.fork_at-out.ensures.items c.join_at.ensures.items
    (c.join-inputs.ensures.writes ∙ ap (λ o. o.link) c.in-Some-start.ensures.out)
    (merges_met c.join-inputs.result.0.0 c.join-inputs.result.0.1 c.join_at.result.0
    c.join_at.result.1 c.join-inputs.result.1 c.join-inputs.ensures.merges
    (c.in_ok-meet_two.ensures.left c.join-inputs.ensures.left_ended)
    (c.in_ok-meet_two.ensures.right c.join-inputs.ensures.right_ended))

pub returns-in_err-meet_two-clause-hands_on : goal.returns-in_err-meet_two-clause-hands_on
returns-in_err-meet_two-clause-hands_on g t c =
    unmet_hands_on _ _ _ _ _ _ _ _ _ c.in_ok-wrote.ensures.hands_on.written
    c.from_residual-in_err-meet_two.ensures.1 c.in_err-meet_two.ensures.lost

pub load_all-requires-clause-numbers : goal.load_all-requires-clause-numbers
load_all-requires-clause-numbers g t c κs within = omega (arith, c.requires.each, c.requires.few)

pub load_all-requires-clause-room : goal.load_all-requires-clause-room
load_all-requires-clause-room g t c κs within =
    (c.requires.room.0, omega (arith, c.requires.room.1, c.requires.each))

pub returns-in_default-clause-hands_on : goal.returns-in_default-clause-hands_on
returns-in_default-clause-hands_on g t c = c.load_all.ensures.hands_on

pub fork_at-out-requires-clause-place : goal.fork_at-out-requires-clause-place
fork_at-out-requires-clause-place g t c =
    omega (
      arith,
      c.place_of_merger-place.ensures,
      c.len.ensures,
      c.len-number.ensures,
      c.requires.each,
      c.requires.some,
      c.in-Some.ensures.len,
      c.in-Some.ensures.cases,
    )

pub fork_at-out-requires-clause-room : goal.fork_at-out-requires-clause-room
fork_at-out-requires-clause-room g t c =
    let popped = c.in-Some.ensures in
    omega (arith, c.requires.each, c.requires.room.2, popped.len, popped.cases)

pub overflow_cast-number : goal.overflow_cast-number
overflow_cast-number g t c =
    let popped = c.in-Some.ensures in
    omega (arith, c.len-number.ensures, c.requires.each, c.requires.few, popped.len, popped.cases)

pub merge_tree-wrote-requires-clause-few : goal.merge_tree-wrote-requires-clause-few
merge_tree-wrote-requires-clause-few g t c κs within = c.requires.few

pub merge_tree-wrote-requires-clause-each : goal.merge_tree-wrote-requires-clause-each
merge_tree-wrote-requires-clause-each g t c κs within =
    let popped = c.in-Some.ensures in
    omega (arith, c.requires.each, c.fork_at-out.ensures.len, popped.len, popped.cases)

pub merge_tree-wrote-requires-clause-some : goal.merge_tree-wrote-requires-clause-some
merge_tree-wrote-requires-clause-some g t c κs within more =
    let popped = c.in-Some.ensures in
    omega (arith, more, c.requires.some, c.fork_at-out.ensures.len, popped.len, popped.cases)

pub merge_tree-wrote-requires-clause-room : goal.merge_tree-wrote-requires-clause-room
merge_tree-wrote-requires-clause-room g t c κs within = (
  c.requires.room.0,
  c.requires.room.1,
  omega (arith, c.requires.room.2, c.fork_at-out.ensures.capacity),
)

pub returns-in_err-meet_two-clause-fed : goal.returns-in_err-meet_two-clause-fed
returns-in_err-meet_two-clause-fed g t c =
    let residual = c.from_residual-in_err-meet_two in
    rw (err_from_is_err_and residual.result residual.ensures.1).1 tt

pub returns-clause-hands_on : goal.returns-clause-hands_on
returns-clause-hands_on g t c =
    record { written = c.in_ok-wrote.ensures.hands_on.written; refused = tt; begun = tt }
