use Rattle.std.proofs.Common.{rules}
use Rattle.prolly_build.proofs.end.end_build.Goals as goal

pub returns-in-Clean-Writing-clause-ok : goal.returns-in-Clean-Writing-clause-ok
returns-in-Clean-Writing-clause-ok g c = search rules

pub returns-in-Clean-Writing-clause-err : goal.returns-in-Clean-Writing-clause-err
returns-in-Clean-Writing-clause-err g c = search rules
