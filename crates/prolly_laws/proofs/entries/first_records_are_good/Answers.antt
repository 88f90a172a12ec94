use Rattle.prolly_laws.specs.Readings.{first_are_good}
use Rattle.prolly_laws.proofs.entries.first_records_are_good.Goals as goal

pub returns : goal.returns
returns c = first_are_good
