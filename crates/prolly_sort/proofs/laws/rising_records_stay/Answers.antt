use Rattle.prolly_sort.proofs.Coming.{rising_stay}
use Rattle.prolly_sort.proofs.laws.rising_records_stay.Goals as goal

pub returns : goal.returns
returns c = rising_stay
