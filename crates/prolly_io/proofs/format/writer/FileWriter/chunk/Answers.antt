use Rattle.std.proofs.Common.{rules}
use Rattle.prolly_io.proofs.format.writer.FileWriter.chunk.Goals as goal

pub returns-clause-counted : goal.returns-clause-counted
returns-clause-counted g c = search rules

pub returns-clause-faulty : goal.returns-clause-faulty
returns-clause-faulty g c = search rules

pub returns-clause-alone : goal.returns-clause-alone
returns-clause-alone g c = search rules
