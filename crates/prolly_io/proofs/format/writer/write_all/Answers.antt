use Rattle.std.proofs.lemmas.Grind.{common_steps}
use Rattle.std.proofs.Common.{arith}
use Rattle.prolly_io.proofs.format.writer.write_all.Goals as goal

pub loop-rest-preserved : goal.loop-rest-preserved
loop-rest-preserved g c = grind (arith, common_steps) steps 2000000

pub returns-clause-writes : goal.returns-clause-writes
returns-clause-writes g c = record {
  written = grind (arith, common_steps) steps 2000000;
  part = λ keeps. tt;
  failures = c.loop-rest.invariant.failures;
  keeping = c.loop-rest.invariant.keeping;
}
