use Rattle.std.proofs.Common.{rules}
use Rattle.prolly_range.proofs.Accepting.{accepted}
use Rattle.prolly_range.proofs.verifier.SetVerifier.next.Goals as goal

pub returns-in_err-chunk-clause-accepts : goal.returns-in_err-chunk-clause-accepts
returns-in_err-chunk-clause-accepts g c honest goes rest = search (rules, accepted)
