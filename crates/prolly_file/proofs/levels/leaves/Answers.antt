use Rattle.std.proofs.lemmas.Grind.{common_steps}
use Rattle.std.proofs.Common.{◌∙◌, sym, arith}
use Rattle.prolly_file.proofs.levels.leaves.Goals as goal

pub loop-pair-init : goal.loop-pair-init
loop-pair-init g c = record {
  state = c.in_ok-level.ensures.state;
  sent = λ version. c.new-events.ensures.items ∙ sym (c.in_ok-level.ensures.events version);
}

pub loop-pair-preserved : goal.loop-pair-preserved
loop-pair-preserved g c = grind (arith, common_steps) steps 2000000

pub returns : goal.returns
returns g c = grind (arith, common_steps) steps 2000000
