-- What draining a receiver of batches leaves.
use Rattle.std.specs.Prelude.{◌≡◌}
use Rattle.prolly_link.specs.Views.{Receiving}
use Rattle.prolly_link.specs.Drained.{Drains}
use Rattle.prolly_link.specs.declared.message.Progress.TheVariants.{Ended, Lost}
use Rattle.prolly_link.specs.declared.batch.closed.BatchDrained.{BatchDrained}
use Rattle.prolly_link.specs.declared.batch.closed.BatchDrained.TheVariants.{Ended as drained_ended}
use Rattle.prolly_link.specs.declared.batch.closed.BatchDrained.TheVariants.{Lost as drained_lost}

-- what `drain` makes of a receiver of batches
abbrev pub IsBatchDrainOf : {T : Type 0} → Receiving T → BatchDrained T → Type 0
IsBatchDrainOf r (drained_ended d) = (d.link ≡ r.link) ×
    Drains r.progress r.items (Ended d.end) d.items
IsBatchDrainOf r (drained_lost d) = (d.link ≡ r.link) × Drains r.progress r.items Lost d.items
