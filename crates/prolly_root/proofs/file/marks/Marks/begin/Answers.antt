use Rattle.prolly_root.proofs.Marking.{all_fresh}
use Rattle.prolly_root.proofs.file.marks.Marks.begin.Goals as goal

pub returns-clause-runs : goal.returns-clause-runs
returns-clause-runs c file = all_fresh file c.args.walk.number
