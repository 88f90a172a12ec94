use Rattle.std.proofs.Common.{rules}
use Rattle.prolly_entry.proofs.spelling.append_record.Goals as goal

pub returns-in-None-clause-ok : goal.returns-in-None-clause-ok
returns-in-None-clause-ok c = search rules
