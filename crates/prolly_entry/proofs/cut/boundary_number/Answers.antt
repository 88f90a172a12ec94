use Rattle.std.proofs.Common.{rules}
use Rattle.prolly_entry.specs.Cut.{boundary_number}
use Rattle.prolly_entry.proofs.cut.boundary_number.Goals as goal

pub returns : goal.returns
unfolding boundary_number
returns c = search rules steps 1000000
