-- Which of two inputs is next.
use Rattle.std.specs.Prelude.{◌≡◌, false, [], ◌∷◌}
use Rattle.std.specs.declared.cmp.Ordering.TheVariants.{Equal}
use Rattle.prolly_entry.specs.Record.{Record}
use Rattle.prolly_entry.specs.Keys.{key_order}
use Rattle.prolly_merge.specs.Head.{Allows, has_key, Stops}
use Rattle.prolly_merge.specs.declared.heads.Head.{Head}
use Rattle.prolly_merge.specs.declared.heads.Head.TheVariants.{Ready}
use Rattle.prolly_merge.specs.declared.two.Turn.{Turn}
use Rattle.prolly_merge.specs.declared.two.Turn.TheVariants.{Left, Right, Both, Stop}

-- The turn is that of the input whose key is less, or of both where the keys are equal; or the
-- merger stops.
abbrev pub IsTurn : Head → Head → Turn → Type 0
IsTurn left right Left = (r : Record) × (left ≡ Ready r) × Allows r.key right ×
    (has_key r.key right ≡ false)
IsTurn left right Right = (r : Record) × (right ≡ Ready r) × Allows r.key left ×
    (has_key r.key left ≡ false)
IsTurn left right Both = (l : Record) × (r : Record) × (left ≡ Ready l) × (right ≡ Ready r) ×
    (key_order l.key r.key ≡ Equal)
IsTurn left right (Stop end) = Stops (left ∷ right ∷ []) end
