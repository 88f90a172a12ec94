use Rattle.std.proofs.lemmas.Grind.{common_steps}
use Rattle.std.proofs.Common.{arith}
use Rattle.prolly_chunk.proofs.chunk.Chunk.add_pair.Goals as goal

pub is_boundary_pair-requires : goal.is_boundary_pair-requires
is_boundary_pair-requires g c = grind (arith, common_steps) steps 2000000

pub returns-clause-boundary : goal.returns-clause-boundary
returns-clause-boundary g c = grind (arith, common_steps) steps 2000000

pub slice_bounds-is_boundary_pair-count : goal.slice_bounds-is_boundary_pair-count
slice_bounds-is_boundary_pair-count g c = grind (arith, common_steps)

pub slice_bounds-is_boundary_pair-start : goal.slice_bounds-is_boundary_pair-start
slice_bounds-is_boundary_pair-start g c = grind (arith, common_steps)
