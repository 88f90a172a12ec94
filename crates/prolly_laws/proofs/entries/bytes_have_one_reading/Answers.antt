use Rattle.prolly_laws.specs.Readings.{one_reading, reading_is}
use Rattle.prolly_laws.proofs.entries.bytes_have_one_reading.Goals as goal

pub returns : goal.returns
returns c = record { some = reading_is; one = one_reading }
