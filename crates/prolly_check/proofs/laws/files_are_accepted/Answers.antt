use Rattle.prolly_check.proofs.OneVerdict.{one_verdict}
use Rattle.prolly_check.proofs.Verdicts.{accepts_files}
use Rattle.prolly_check.proofs.laws.files_are_accepted.Goals as goal

pub returns : goal.returns
returns c = record { one = one_verdict; accepted = accepts_files }
