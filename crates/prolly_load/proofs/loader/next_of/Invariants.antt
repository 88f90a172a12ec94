use Rattle.std.proofs.Common.{◌≡◌, ℕ, ◌-◌, Bool, true, List, length}
use Rattle.prolly_entry.specs.Record.{Record}
use Rattle.prolly_load.specs.Loading.{IsUnderWay}
use Rattle.prolly_load.proofs.loader.next_of.Given as goal

-- Wherever the loading stood before the step, it stands there still, with more bytes in the buffer.
abbrev pub invariant-loop-record : goal.invariant-loop-record
invariant-loop-record g l = record {
  under_way : (asked : Bool) (bytes : List ℕ) (before after : List Record) →
      (asked ≡ true → (g.S.Source.seen l.initial.source).is_honest ≡ true) →
      IsUnderWay asked l.limit l.count l.initial.buffer bytes
      (g.S.Source.seen l.initial.source).left before after →
      IsUnderWay asked l.limit l.count l.buffer bytes (g.S.Source.seen l.source).left before after;
  honest : (g.S.Source.seen l.initial.source).is_honest ≡ true →
      (g.S.Source.seen l.source).is_honest ≡ true;
  steady : (g.S.Source.seen l.initial.source).is_steady ≡ true →
      (g.S.Source.seen l.source).is_steady ≡ true;
  failures : (g.S.Source.seen l.source).failures ≡ (g.S.Source.seen l.initial.source).failures;
}

-- A read is one byte more in unparsed, where there are less than a record's.
abbrev pub decreases-loop-record : goal.decreases-loop-record
decreases-loop-record g l = 66566 - length l.buffer.unparsed
