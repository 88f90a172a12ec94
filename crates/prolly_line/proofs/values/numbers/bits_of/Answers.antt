use Rattle.std.proofs.Common.{arith}
use Rattle.prolly_line.proofs.values.numbers.bits_of.Goals as goal

pub returns : goal.returns
returns c = (
  c.optional_byte_of.result,
  c.optional_byte_of.ensures 0 24 (omega arith) c.requires,
  c.unwrap_or.ensures,
)
