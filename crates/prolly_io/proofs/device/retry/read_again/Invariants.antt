use Rattle.std.specs.Io.KnownBytes.{Keeps}
use Rattle.prolly_io.proofs.device.retry.read_again.Given as goal

-- a read that was interrupted read nothing
abbrev pub invariant-loop : goal.invariant-loop
invariant-loop g l = Keeps (g.R.Read.remaining l.initial.reader) (g.R.Read.remaining l.reader)
