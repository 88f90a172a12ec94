use Rattle.std.proofs.Common.{rules}
use Rattle.prolly_entry.proofs.cut.Sha512CutCut.bits.Goals as goal

pub returns : goal.returns
returns c = search rules
