-- Where the parts of a record lie in the bytes that it begins.
use Rattle.std.specs.Prelude.{ℕ, ◌-◌, ◌≤◌, List, length, take, drop, option_map, IfSome}
use Rattle.prolly_entry.specs.declared.next.RecordAt.{RecordAt}
use Rattle.prolly_entry.specs.Record.{Record}

-- The record whose parts lie there.
abbrev pub record_at : List ℕ → RecordAt → Record
record_at bytes at = record {
  key = take (at.key_end - 2) (drop 2 bytes);
  value = option_map (λ start. take (at.len - start) (drop start bytes)) at.value_start;
}

-- The parts lie in the bytes, the value behind the key.
pub record LiesIn (bytes : List ℕ) (at : RecordAt) : Type 0 where
  pub starts : 2 ≤ at.key_end
  pub key : at.key_end ≤ at.len
  pub value : IfSome at.value_start (λ start. (at.key_end ≤ start) × (start ≤ at.len))
  pub within : at.len ≤ length bytes
