use Rattle.std.proofs.Common.{arith}
use Rattle.prolly_line.proofs.values.numbers.chunk_bytes_of.Goals as goal

pub returns : goal.returns
returns c = c.optional_number_of.ensures 1 1073741824 (omega arith) c.requires
