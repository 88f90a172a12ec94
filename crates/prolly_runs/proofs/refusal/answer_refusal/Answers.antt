use Rattle.std.proofs.Common.{rules}
use Rattle.prolly_runs.proofs.refusal.answer_refusal.Goals as goal

pub returns-in-Usage : goal.returns-in-Usage
returns-in-Usage c = search rules
