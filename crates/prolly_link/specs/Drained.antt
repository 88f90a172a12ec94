-- What draining a receiver leaves.
use Rattle.std.specs.Prelude.{◌≡◌, List}
use mathlib.Core.List.{IsPrefix}
use Rattle.prolly_link.specs.Views.{Receiving}
use Rattle.prolly_link.specs.declared.message.Progress.{Progress}
use Rattle.prolly_link.specs.declared.message.Progress.TheVariants.{Open, Ended, Lost}
use Rattle.prolly_link.specs.declared.closed.Drained.{Drained}
use Rattle.prolly_link.specs.declared.closed.Drained.TheVariants.{Ended as drained_ended}
use Rattle.prolly_link.specs.declared.closed.Drained.TheVariants.{Lost as drained_lost}

module _ {T : Type 0} where
  -- a receiver that had come to `before` with the items xs is left with the items ys, having come
  -- to `after`
  abbrev pub Drains : Progress → List T → Progress → List T → Type 0
  Drains Open xs after ys = IsPrefix xs ys
  Drains (Ended e) xs after ys = (after ≡ Ended e) × (ys ≡ xs)
  Drains Lost xs after ys = (after ≡ Lost) × (ys ≡ xs)

  -- what `drain` makes of a receiver
  abbrev pub IsDrainOf : Receiving T → Drained T → Type 0
  IsDrainOf r (drained_ended d) = (d.link ≡ r.link) ×
      Drains r.progress r.items (Ended d.end) d.items
  IsDrainOf r (drained_lost d) = (d.link ≡ r.link) × Drains r.progress r.items Lost d.items
