use Rattle.std.proofs.Common.{ap, length, ◌∙◌, arith}
use Rattle.prolly_entry.specs.Record.{Record}
use Rattle.prolly_link.specs.Views.{Batching, Receiving}
use Rattle.prolly_build.specs.RunResult.{IsUnreceived}
use Rattle.prolly_build.proofs.FirstOnes.{all_first}
use Rattle.prolly_build.proofs.ForkSteps.{same_length}
use Rattle.prolly_build.proofs.run.old_tree.new_changes.Goals as goal

pub returns-in-Some-clause-unread : goal.returns-in-Some-clause-unread
returns-in-Some-clause-unread g c =
    (all_first IsUnreceived _ _ _ c.in-Some.ensures.items c.in_ok-feed.ensures.unread).0

pub returns-clause-paired : goal.returns-clause-paired
returns-clause-paired g c =
    let same = same_length (λ (o : Batching Record). o.link) (λ (r : Receiving Record). r.link)
    c.in_ok-feed.feed.outs.items c.in_ok-feed.inputs.items c.in_ok-feed.ensures.paired in
    let none = ap length c.in_default.ensures.items.0 in
    record {
      few = omega (arith, c.in_ok-feed.ensures.few, c.in_ok-feed.feed.outs.ok.0);
      fed = λ e. cc;
      none = (
        c.in_ok-feed.ensures.some (omega (arith, same, none, c.in_ok-feed.feed.outs.ok.0)),
        c.close.ensures.link ∙ c.in_ok-sender.field-0.paired,
        c.close.ensures.items ∙ c.in_ok-sender.field-0.unsent,
        c.close.ensures.end,
      );
    }
