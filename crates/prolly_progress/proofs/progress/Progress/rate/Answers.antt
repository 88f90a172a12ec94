use Rattle.std.proofs.Math.Nat.{div-div-eq-div-mul}
use Rattle.prolly_progress.proofs.progress.Progress.rate.Goals as goal

pub returns : goal.returns
returns c = rw c.max.ensures (div-div-eq-div-mul c.args.self.now.read _ 1_000)
