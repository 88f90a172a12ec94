-- Records as they are shown.
use Rattle.std.specs.Prelude.{ℕ, List, Option}
use Rattle.std.specs.Borrow.{Bor}
use Rattle.std.specs.Option.{option_copied}
use Rattle.prolly_entry.specs.Record.{Record}

-- The record of this key and of this value, if there is one.
abbrev pub shown_record : Bor (List ℕ) × Option (Bor (List ℕ)) → Record
shown_record shown = record { key = shown.0.now; value = option_copied shown.1 }
