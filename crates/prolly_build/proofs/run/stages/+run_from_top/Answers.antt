use Rattle.std.proofs.Common.{ap, ◌∙◌, sym, vec_len, arith, refl}
use Rattle.std.proofs.lemmas.Result.{IfOk-weaker}
use Rattle.prolly_build.proofs.RanSteps.{met_hands_on, nothing_begun, of_made}
use Rattle.prolly_build.proofs.StagingSteps.{leaves_run, nodes_run}
use Rattle.prolly_build.proofs.run.stages.+run_from_top.Goals as goal

pub returns-in_default-start : goal.returns-in_default-start
returns-in_default-start g t c = record {
  link = tt;
  run = tt;
  hands_on = record {
    written = tt;
    refused = λ _. refl;
    begun = nothing_begun c.args.site.now.config _;
  };
}

pub returns-clause-run : goal.returns-clause-run
returns-clause-run g t c =
    of_made _ _ _ c.up_to_stage.result c.up_to_stage.ensures.ran c.up_to_stage.ensures.met
    (λ met. nodes_run _ c.args.site.now.config
    (vec_len c.pop.new.self) c.in-Some-start.handle.promise.job.value.level (vec_len c.args.events) _ _
    (ap (λ j. j.level) c.in-Some-start.ensures.job ∙ (omega (arith, c.len.ensures)))
    (omega (arith, c.in-Some.ensures.cases))
    (ap (λ j. j.cut) c.in-Some-start.ensures.job ∙ c.cut.ensures)
    (ap (λ j. j.version) c.in-Some-start.ensures.job ∙ c.version.ensures)
    _ _ c.join-input.result.0 c.join-input.result.1 c.in_ok-ran.field-0.out
    c.in_ok-ran.ensures.run c.join-input.ensures (met c.join-input.ensures.has_ended))

pub returns-clause-hands_on : goal.returns-clause-hands_on
returns-clause-hands_on g t c =
    met_hands_on _ _ _ _ _ _ _ c.up_to_stage.result c.in_ok-ran.ensures.hands_on.written
    (IfOk-weaker c.up_to_stage.result _ _ (λ ran is. ap (λ r. r.base.wrote) is)
    c.up_to_stage.ensures.ran) c.up_to_stage.ensures.lost

pub returns-in_default-clause-link : goal.returns-in_default-clause-link
returns-in_default-clause-link g t c = c.run_base.ensures.link

pub returns-in_default-clause-hands_on : goal.returns-in_default-clause-hands_on
returns-in_default-clause-hands_on g t c = c.run_base.ensures.hands_on

pub returns-in_default-clause-run : goal.returns-in_default-clause-run
returns-in_default-clause-run g t c =
    IfOk-weaker c.run_base.result _ _ (λ ran made. leaves_run _ c.args.site.now.config
    (vec_len c.args.events) ran.out (omega (arith, c.in_default.ensures)) made)
    c.run_base.ensures.base

pub overflow_cast-level : goal.overflow_cast-level
overflow_cast-level g t c =
    let popped = c.in-Some.ensures in
    omega (arith, c.len.ensures, c.requires.levels, popped.len, popped.cases)

pub overflow_add-level : goal.overflow_add-level
overflow_add-level g t c =
    let popped = c.in-Some.ensures in
    omega (arith, c.len.ensures, c.requires.levels, popped.len, popped.cases)

pub run_from_top-ran-requires-clause-levels : goal.run_from_top-ran-requires-clause-levels
run_from_top-ran-requires-clause-levels g t c κs within =
    let popped = c.in-Some.ensures in
    omega (arith, c.requires.levels, popped.len, popped.cases)

pub run_from_top-ran-requires-clause-files : goal.run_from_top-ran-requires-clause-files
run_from_top-ran-requires-clause-files g t c κs within = c.requires.files

pub run_from_top-ran-requires-clause-leaves : goal.run_from_top-ran-requires-clause-leaves
run_from_top-ran-requires-clause-leaves g t c κs within = c.requires.leaves

pub run_from_top-ran-requires-clause-over : goal.run_from_top-ran-requires-clause-over
run_from_top-ran-requires-clause-over g t c κs within = c.requires.over

pub run_from_top-ran-requires-clause-middle : goal.run_from_top-ran-requires-clause-middle
run_from_top-ran-requires-clause-middle g t c κs within = c.requires.middle

pub run_from_top-ran-requires-clause-unsent : goal.run_from_top-ran-requires-clause-unsent
run_from_top-ran-requires-clause-unsent g t c κs within =
    (c.requires.unsent.0, c.in-Some.link.unsent)

pub run_from_top-ran-requires-clause-unread : goal.run_from_top-ran-requires-clause-unread
run_from_top-ran-requires-clause-unread g t c κs within = c.requires.unread

pub up_to_stage-requires : goal.up_to_stage-requires
up_to_stage-requires g t c =
    c.in_ok-ran.ensures.link ∙ (c.in-Some.link.paired ∙
    sym (c.join-input.ensures.reads ∙ ap (λ j. j.chunks.link) c.in-Some-start.ensures.job))

pub returns-clause-link : goal.returns-clause-link
returns-clause-link g t c =
    IfOk-weaker c.up_to_stage.result _ _ (λ ran is. ap (λ r. r.out.link) is ∙
    (c.join-input.ensures.writes ∙ ap (λ o. o.link) c.in-Some-start.ensures.out))
    c.up_to_stage.ensures.ran
