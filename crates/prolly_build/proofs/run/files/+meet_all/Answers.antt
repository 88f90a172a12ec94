use Rattle.std.proofs.lemmas.Result.{on_ok_weaker}
use Rattle.prolly_build.proofs.FeedingSteps.{all_met}
use Rattle.prolly_build.proofs.run.files.+meet_all.Goals as goal

pub returns-clause-met : goal.returns-clause-met
returns-clause-met g t c =
    on_ok_weaker c.meet_all.result
    (all_met c.args.inputs.items c.args.closed.items c.in-Some-Some.receiver c.in-Some-Some.sender
    c.pop_first-2.new.list.items c.pop_first.new.list.items
    c.in-Some-Some.ensures'.items c.in-Some-Some.ensures.items c.in_ok-meet_link.ensures.met)
    c.meet_all.ensures.met
