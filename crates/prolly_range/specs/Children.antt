-- The children of a node in which keys are sought.
use Rattle.std.specs.Prelude.{ℕ, List}
use Rattle.prolly_look_up.specs.Entries.{Child}
use Rattle.prolly_range.specs.KeySet.{KeySet, Met, set_of}
use Rattle.prolly_range.specs.declared.children.ChildMet.{ChildMet}

-- A child in which keys are sought, for who goes on there: its number, its reference, and the keys.
pub record SeenMet : Type 0 where
  pub number : ℕ
  pub reference : List ℕ
  pub set : KeySet

-- A child in which keys are sought, as it is seen so.
abbrev pub seen_met : Met Child → SeenMet
seen_met met = record { number = met.number; reference = met.item.reference; set = met.set }

-- A child that the code met, as it is seen so.
abbrev pub met_of : ChildMet → SeenMet
met_of met = record { number = met.number; reference = met.reference.0; set = set_of met.set }
