use Rattle.std.proofs.Common.{◌≡◌, ◌+◌, ◌-◌, ◌*◌, true, length}
use Rattle.prolly_load.proofs.Surveys.{IsSurveying}
use Rattle.prolly_load.proofs.surveyor.skip_records.Given as goal

abbrev pub invariant-loop-removes : goal.invariant-loop-removes
invariant-loop-removes g l = record {
  surveying : IsSurveying (g.S.Source.seen l.initial.source).is_honest l.limit l.tally l.buffer
      (g.S.Source.seen l.initial.source).left (g.S.Source.seen l.source).left;
  honest : (g.S.Source.seen l.initial.source).is_honest ≡ true →
      (g.S.Source.seen l.source).is_honest ≡ true;
  steady : (g.S.Source.seen l.initial.source).is_steady ≡ true →
      (g.S.Source.seen l.source).is_steady ≡ true;
  failures : (g.S.Source.seen l.source).failures ≡ (g.S.Source.seen l.initial.source).failures;
}

-- A record is one more of the limit, and a read is one byte more in unparsed, where there are less
-- than a record's.
abbrev pub decreases-loop-removes : goal.decreases-loop-removes
decreases-loop-removes g l = (l.limit - l.tally.records) * 66567 +
    (66566 - length l.buffer.unparsed)
