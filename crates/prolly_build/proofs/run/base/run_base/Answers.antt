use Rattle.std.proofs.Common.{refl, ap, sym, subst, ◌∙◌}
use Rattle.prolly_build.specs.Base.{GoesOver}
use Rattle.prolly_build.proofs.RanSteps.{nothing_begun}
use Rattle.prolly_build.proofs.run.base.run_base.Goals as goal

pub returns-in_default : goal.returns-in_default
returns-in_default g c = record {
  link = tt;
  base = tt;
  hands_on = record {
    written = tt;
    refused = λ _. refl;
    begun = nothing_begun c.args.site.now.config _;
  };
}

pub returns-clause-hands_on : goal.returns-clause-hands_on
returns-clause-hands_on g c =
    record { written = c.in_ok-middle.ensures.hands_on.written; refused = tt; begun = tt }

pub returns-clause-link : goal.returns-clause-link
returns-clause-link g c =
    (subst (λ (j : g.row.L.Denot). GoesOver (g.L.Job.Gives j)) (sym c.in-Some.ensures.job)
    c.requires.over) _ _ _ c.join-leaves.ensures ∙ ap (λ o. o.link) c.in-Some.ensures.out
