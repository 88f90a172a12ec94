use Rattle.std.proofs.Common.{rules}
use Rattle.prolly_entry.proofs.record.Record.value.Goals as goal

pub returns-in-Put-clause-value : goal.returns-in-Put-clause-value
returns-in-Put-clause-value c = search rules

pub returns-in-Put-clause-short : goal.returns-in-Put-clause-short
returns-in-Put-clause-short c = search rules
