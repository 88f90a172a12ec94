use Rattle.std.proofs.Common.{arith}
use Rattle.prolly_line.proofs.values.numbers.memory_of.Goals as goal

pub returns : goal.returns
returns c = (
  c.optional_number_of.result,
  c.optional_number_of.ensures 16 4000 (omega arith) c.requires,
  c.unwrap_or.ensures,
)
