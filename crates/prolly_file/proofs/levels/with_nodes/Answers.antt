use Rattle.std.proofs.lemmas.Grind.{common_steps}
use Rattle.std.proofs.Common.{rules, ◌∙◌, sym, arith}
use Rattle.prolly_file.proofs.levels.with_nodes.Goals as goal

pub loop-event-init : goal.loop-event-init
loop-event-init g c = record {
  whole = search rules;
  state = c.in_ok-nodes.ensures.state;
  sent = c.new-more.ensures.items ∙ sym c.in_ok-nodes.ensures.events;
}

pub loop-event-preserved : goal.loop-event-preserved
loop-event-preserved g c = grind (arith, common_steps) steps 4000000

pub returns : goal.returns
returns g c = grind (arith, common_steps) steps 2000000
