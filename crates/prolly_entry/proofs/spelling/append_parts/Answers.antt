use Rattle.std.proofs.lemmas.Grind.{common_steps}
use Rattle.std.proofs.Common.{rules, arith}
use Rattle.prolly_entry.proofs.spelling.append_parts.Goals as goal

pub returns-clause-err : goal.returns-clause-err
returns-clause-err c = search rules

pub returns-clause-ok : goal.returns-clause-ok
returns-clause-ok c = grind (arith, common_steps) steps 2000000
