use Rattle.std.proofs.Common.{rules}
use Rattle.prolly_stage.proofs.gated.Gated.ask.Goals as goal

pub returns : goal.returns
returns g c = search rules
