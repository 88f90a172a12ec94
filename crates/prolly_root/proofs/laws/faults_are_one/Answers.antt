use Rattle.prolly_root.proofs.OneCut.{one_cut, some_cut}
use Rattle.prolly_root.proofs.OneFault.{no_fault, one_fault}
use Rattle.prolly_root.proofs.laws.faults_are_one.Goals as goal

pub returns-clause-cut : goal.returns-clause-cut
returns-clause-cut c = record { some = some_cut; one = one_cut }

pub returns-clause-told : goal.returns-clause-told
returns-clause-told c = record { one = one_fault; none = no_fault }
