use Rattle.std.proofs.lemmas.Grind.{common_steps}
use Rattle.std.proofs.Common.{arith}
use Rattle.prolly_io.proofs.device.read_buffer.ReadBuffer.make_room.Goals as goal

pub invariant_of-self : goal.invariant_of-self
invariant_of-self g c = grind (arith, common_steps) steps 2000000

pub returns-clause-kept : goal.returns-clause-kept
returns-clause-kept g c = grind (arith, common_steps) steps 2000000

pub returns-clause-unparsed : goal.returns-clause-unparsed
returns-clause-unparsed g c = grind (arith, common_steps) steps 2000000

pub returns-clause-room : goal.returns-clause-room
returns-clause-room g c = grind (arith, common_steps) steps 2000000
