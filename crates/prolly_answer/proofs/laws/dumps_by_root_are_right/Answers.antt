use Rattle.std.proofs.Common.{[], ◌⊎◌, inl, inr, sym, ◌∙◌}
use Rattle.prolly_look_up.specs.Content.{chunk_bytes}
use Rattle.prolly_look_up.specs.ScanWay.{HaveFirstFrom, joined}
use Rattle.prolly_look_up.specs.Way.{Clash}
use Rattle.prolly_answer.specs.RootDumps.{HaveFirst}
use Rattle.prolly_answer.proofs.RootSteps.{from_least}
use Rattle.prolly_answer.proofs.laws.dumps_by_root_are_right.Goals as goal

pub returns : goal.returns
returns c version bits m lists ways rising lawful scanned =
    tell (c.ways_are_right.ensures.onward version bits m [] lists ways rising lawful scanned)
  where
    tell : HaveFirstFrom [] m lists ⊎ Clash (joined ways) (chunk_bytes version bits m) →
        HaveFirst m lists ⊎ Clash (joined ways) (chunk_bytes version bits m)
    tell (inl first) = inl (record {
      others = first.others;
      are = sym (from_least m) ∙ first.are;
      all = first.all;
    })
    tell (inr clash) = inr clash
