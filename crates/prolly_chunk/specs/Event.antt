-- What a contract sees of the event of a chunk.
use Rattle.std.specs.Prelude.{ℕ, List, Option, None, Some}
use Rattle.std.specs.Global.{Vec}

-- The key that an event has by itself, or else that of its chunk.
abbrev pub key_or : Option (Vec ℕ) → List ℕ → List ℕ
key_or None key = key
key_or (Some own) key = own.items
