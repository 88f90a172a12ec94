-- The chunks that are due, as a walk keeps them.
use Rattle.std.specs.Prelude.{ℕ, Some}
use Rattle.prolly_range.specs.Children.{SeenMet}
use Rattle.prolly_range.specs.KeySet.{set_of}
use Rattle.prolly_range.specs.SetProof.{Due}
use Rattle.prolly_range.specs.declared.due.Due.{Due as Kept}

-- A chunk that is due, as definitions see it.
abbrev pub due_of : Kept → Due
due_of due = record { reference = due.reference.0; above = due.above; set = set_of due.set }

-- A child of a node of this level in which keys are sought.
abbrev pub seen_due : ℕ → SeenMet → Due
seen_due level met = record { reference = met.reference; above = Some level; set = met.set }
