use Rattle.std.proofs.Common.{◌≡◌, ◌-◌, true}
use Rattle.prolly_load.specs.Loading.{IsUnderWay}
use Rattle.prolly_load.proofs.loader.send_records.Given as goal

abbrev pub invariant-loop-record : goal.invariant-loop-record
invariant-loop-record g l = record {
  under_way : IsUnderWay (g.S.Source.seen l.initial.source).is_honest l.limit l.count l.buffer
      (g.S.Source.seen l.initial.source).left (g.S.Source.seen l.source).left
      (g.O.Out.sent l.initial.out) (g.O.Out.sent l.out);
  link : g.O.Out.link l.out ≡ g.O.Out.link l.initial.out;
  honest : (g.S.Source.seen l.initial.source).is_honest ≡ true →
      (g.S.Source.seen l.source).is_honest ≡ true;
  steady : (g.S.Source.seen l.initial.source).is_steady ≡ true →
      (g.S.Source.seen l.source).is_steady ≡ true;
  failures : (g.S.Source.seen l.source).failures ≡ (g.S.Source.seen l.initial.source).failures;
}

-- A record is one more of the limit.
abbrev pub decreases-loop-record : goal.decreases-loop-record
decreases-loop-record g l = l.limit - l.count
