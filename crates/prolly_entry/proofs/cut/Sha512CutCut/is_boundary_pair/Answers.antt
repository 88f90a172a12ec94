use Rattle.std.proofs.Common.{rules}
use Rattle.prolly_entry.proofs.cut.Sha512CutCut.is_boundary_pair.Goals as goal

pub returns-in-Some : goal.returns-in-Some
returns-in-Some c = search rules
