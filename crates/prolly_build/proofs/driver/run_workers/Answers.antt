use Rattle.std.proofs.Common.{ap, sym, ◌∙◌, arith}
use Rattle.prolly_build.proofs.Makings.{at_ok, at_err}
use Rattle.prolly_build.proofs.Outcomes.{files_outcome}
use Rattle.prolly_build.proofs.Runs.{halted}
use Rattle.prolly_build.proofs.driver.run_workers.Goals as goal

pub run_scoped-ran-requires-clause-over : goal.run_scoped-ran-requires-clause-over
run_scoped-ran-requires-clause-over g c κs within = λ link done closed h.
    (h c.args.lent.now.config.version).writes

pub end_files-requires-clause-link : goal.end_files-requires-clause-link
end_files-requires-clause-link g c = at_ok _ _ _ c.in-Ok.is c.run_scoped-ran.ensures.link

pub end_files-requires-clause-ended : goal.end_files-requires-clause-ended
end_files-requires-clause-ended g c =
    (at_ok _ _ _ c.in-Ok.is c.run_scoped-ran.ensures.hands_on.written).has_ended

pub end_files-requires-clause-end : goal.end_files-requires-clause-end
end_files-requires-clause-end g c =
    (at_ok _ _ _ c.in-Ok.is c.run_scoped-ran.ensures.hands_on.written).end_is

pub end_files-requires-clause-feed : goal.end_files-requires-clause-feed
end_files-requires-clause-feed g c =
    let made = (at_ok _ _ _ c.in-Ok.is c.run_scoped-ran.ensures.run).made in
    made.fed.links ∙ (c.requires.paired.feed ∙ sym made.passes.reads)

pub end_files-requires-clause-pairs : goal.end_files-requires-clause-pairs
end_files-requires-clause-pairs g c =
    let made = (at_ok _ _ _ c.in-Ok.is c.run_scoped-ran.ensures.run).made in
    made.passes.writes ∙ (c.requires.paired.pairs_link ∙
    sym (made.cuts c.args.lent.now.config.version).reads)

pub returns-in-Ok : goal.returns-in-Ok
returns-in-Ok g c =
    let source = g.met.S.Source g.world.𝓛 g.world.𝓜 g.world.𝓡 (
      (λ s x. x),
      (λ x. x),
      (λ x. x),
      λ x. x,
    ) in
    let run = at_ok _ _ _ c.in-Ok.is c.run_scoped-ran.ensures.run in
    let written = at_ok _ _ _ c.in-Ok.is c.run_scoped-ran.ensures.hands_on.written in
    let answered = files_outcome g.S.Source.seen c.args.lent.now.config c.args.sources.now.items
    c.run_scoped-ran.result.1.items _ _ _ source.left_are_bytes c.requires.lawful
    (omega (arith, c.requires.files, c.args.sources.now.ok.0)) _ c.requires.levels _
    (ap (λ v. v.items) c.replace-taken.ensures.value) _ c.in-Ok.ran.out run _ c.requires.cut _ _ _
    (run.made.cuts c.args.lent.now.config.version) _ _ _ _ run.made.passes _ _ run.made.fed _
    (c.end_files.ensures _ written.written) in
    record { outcome = answered.outcome; started = answered.started }

pub returns-in-Err-clause-outcome : goal.returns-in-Err-clause-outcome
returns-in-Err-clause-outcome g c =
    let e = at_err _ _ _ c.in-Err.is c.run_scoped-ran.ensures.hands_on.refused in
    let h = halted _ _ c.in-Err.halt c.fault.result c.fault.ensures e in
    let begun = at_err _ _ _ c.in-Err.is c.run_scoped-ran.ensures.hands_on.begun in
    record {
      built = tt;
      kept = tt;
      unmade = λ w. absurd (h.no_writer w);
      stopped = λ file. absurd (h.no_file file);
      refused = λ memory. absurd (h.no_memory memory);
      begun = λ other. begun;
      unstarted = h.unstarted;
      left_behind = h.left_behind;
      keeps = begun.keeps;
    }

pub returns-in-Err-clause-started : goal.returns-in-Err-clause-started
returns-in-Err-clause-started g c =
    (halted (Unit {0}) (Unit {0}) c.in-Err.halt c.fault.result c.fault.ensures (λ n. tt)).not_counted
