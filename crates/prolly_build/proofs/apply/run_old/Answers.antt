use Rattle.std.proofs.Common.{ap, sym, subst, ◌∙◌, arith}
use Rattle.prolly_build.specs.GivenBack.{IsGivenBack}
use Rattle.prolly_build.proofs.ApplyOutcomes.{changes_link, halted_outcome, lent_outcome}
use Rattle.prolly_build.proofs.GivenBack.{given_back, gone}
use Rattle.prolly_build.proofs.Makings.{at_ok, at_err}
use Rattle.prolly_build.proofs.apply.run_old.Goals as goal

pub run_scoped-ran-requires-clause-over : goal.run_scoped-ran-requires-clause-over
run_scoped-ran-requires-clause-over g c κs within = λ link done closed h. h.writes

pub end_old-requires-clause-link : goal.end_old-requires-clause-link
end_old-requires-clause-link g c = at_ok _ _ _ c.in-Ok.is c.run_scoped-ran.ensures.link

pub end_old-requires-clause-ended : goal.end_old-requires-clause-ended
end_old-requires-clause-ended g c =
    (at_ok _ _ _ c.in-Ok.is c.run_scoped-ran.ensures.hands_on.written).has_ended

pub end_old-requires-clause-end : goal.end_old-requires-clause-end
end_old-requires-clause-end g c =
    (at_ok _ _ _ c.in-Ok.is c.run_scoped-ran.ensures.hands_on.written).end_is

pub end_old-requires-clause-leaves : goal.end_old-requires-clause-leaves
end_old-requires-clause-leaves g c =
    let made = (at_ok _ _ _ c.in-Ok.is c.run_scoped-ran.ensures.run).made in
    made.passes.writes ∙ (c.requires.leaves ∙ sym made.cuts.reads_old)

pub end_old-requires-clause-changes : goal.end_old-requires-clause-changes
end_old-requires-clause-changes g c =
    let made = (at_ok _ _ _ c.in-Ok.is c.run_scoped-ran.ensures.run).made in
    changes_link _ _ _ c.args.old.base.leaves.changes c.in-Ok.ran.base.leaves.changes _
    c.requires.changes made.fed.links made.cuts.reads_changes

pub returns-in-Ok : goal.returns-in-Ok
returns-in-Ok g c =
    let source = g.met.S.Source g.world.𝓛 g.world.𝓜 g.world.𝓡 (
      (λ s x. x),
      (λ x. x),
      (λ x. x),
      λ x. x,
    ) in
    let run = at_ok _ _ _ c.in-Ok.is c.run_scoped-ran.ensures.run in
    let written = at_ok _ _ _ c.in-Ok.is c.run_scoped-ran.ensures.hands_on.written in
    let answered = lent_outcome g.S.Source.seen
    (g.D.ChunkSource.goes_over c.args.old.base.middle.source)
    c.args.lent.now.config _ c.args.sources.now.items c.run_scoped-ran.result.1.items _ _ _
    source.left_are_bytes c.requires.lawful
    (omega (arith, c.requires.files, c.args.sources.now.ok.0)) _ c.requires.levels _
    (ap (λ v. v.items) c.replace-taken.ensures.value) _ c.in-Ok.ran.out run _ c.requires.cut
    g.D.ChunkSource.goes_over g.D.ChunkSource.failures _
    c.args.old.base.middle.source (λ file h. h) c.walks_tell_one_fault.ensures.lawful
    c.requires.version _ _ _ _ _ _ run.made.cuts _ _ _ _ run.made.passes _ _ run.made.fed _ _
    (omega (arith, c.args.sources.now.ok.0)) c.requires.changes _
    (c.end_old.ensures.ended _ written.written) in
    record {
      outcome = answered.outcome;
      counted = answered.counted;
      given_back = subst
          (λ s. IsGivenBack g.D.ChunkSource.goes_over g.D.ChunkSource.failures
          c.args.old.base.middle.source s c.end_old.result.answer) (sym c.end_old.ensures.source)
          (given_back g.D.ChunkSource.goes_over g.D.ChunkSource.failures _ _ _ _ _ _
          _
          run.made.passes _ _ _ _ _ _ _ _ _ _ c.in-Ok.ran.out run run.made.cuts _ _ _
          c.end_old.result.answer
          (c.end_old.ensures.ended _ written.written));
    }

pub returns-in-Err-clause-outcome : goal.returns-in-Err-clause-outcome
returns-in-Err-clause-outcome g c =
    halted_outcome _ _ _ _ _ _ _ _ _ c.in-Err.halt c.fault.result c.fault.ensures
    (at_err _ _ _ c.in-Err.is c.run_scoped-ran.ensures.hands_on.refused)
    (at_err _ _ _ c.in-Err.is c.run_scoped-ran.ensures.hands_on.begun)

pub returns-in-Err-clause-given_back : goal.returns-in-Err-clause-given_back
returns-in-Err-clause-given_back g c =
    gone g.D.ChunkSource.goes_over g.D.ChunkSource.failures
    c.args.old.base.middle.source c.in-Err.halt c.fault.result c.fault.ensures
