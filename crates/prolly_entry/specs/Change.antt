-- What the private parts of a record say. (This project's rules.)
use Rattle.std.specs.Prelude.{◌≤◌, vec_len, Some, None}
use Rattle.prolly_entry.specs.Record.{Record}
use Rattle.prolly_entry.specs.declared.record.Change.{Change}
use Rattle.prolly_entry.specs.declared.record.Change.TheVariants.{Put, Remove}

-- The record that a change says.
abbrev pub record_of : Change → Record
record_of (Put pair) = record { key = pair.key; value = Some pair.value }
record_of (Remove key) = record { key = key.items; value = None }

-- The key that a change removes has at most 1,024 bytes. A pair's own key is short in itself.
abbrev pub HasShortKey : Change → Type 0
HasShortKey (Put pair) = Unit {0}
HasShortKey (Remove key) = vec_len key ≤ 1024
