use Rattle.std.proofs.Common.{rules, ◌≡◌, ◌∙◌, Some, refl, sym, ap, subst, arith}
use Rattle.std.specs.Option.{option_or}
use Rattle.prolly_io.specs.ReadBuffer.{Held}
use Rattle.prolly_io.specs.ReadBufferLaws.{gains_none}
use Rattle.prolly_load.specs.Survey.{key_bytes}
use Rattle.prolly_load.specs.Tally.{HasToldKey, Tells}
use Rattle.prolly_load.proofs.Surveys.{IsSurveying, none_passed, one_passed, more_came, has_room}
use Rattle.prolly_load.proofs.Surveys.{flaw_told}
use Rattle.prolly_load.proofs.Surveys.{end_told, nothing_came, no_flaw_shown}
use Rattle.prolly_load.proofs.ToldKeys.{has_told_key}
use Rattle.prolly_load.proofs.UnderWay.{still_undecided}
use Rattle.prolly_load.proofs.surveyor.skip_records.Goals as goal

pub loop-removes-init : goal.loop-removes-init
loop-removes-init g c = record {
  surveying = subst (λ tally. IsSurveying (g.S.Source.seen c.args.source.now).is_honest
      c.args.limit tally c.args.buffer.now (g.S.Source.seen c.args.source.now).left
      (g.S.Source.seen c.args.source.now).left) (sym c.requires.tally_is)
      (none_passed (g.S.Source.seen c.args.source.now).is_honest c.args.limit
      c.args.buffer.now (g.S.Source.seen c.args.source.now).left
      c.requires.last_key c.requires.unparsed);
  honest = λ o. o;
  steady = λ o. o;
  failures = refl;
}

-- ---- a record

pub count-requires-clause-removals : goal.count-requires-clause-removals
count-requires-clause-removals g c =
    let room = has_room _ _ _ _ _ _ _ _ _ c.loop-removes.invariant.surveying c.in-Record.ensures in
    omega arith

pub count-requires-clause-bytes : goal.count-requires-clause-bytes
count-requires-clause-bytes g c =
    let room = has_room _ _ _ _ _ _ _ _ _ c.loop-removes.invariant.surveying c.in-Record.ensures in
    omega arith

pub loop-removes-preserved-in_ok-count-in-Record : goal.loop-removes-preserved-in_ok-count-in-Record
loop-removes-preserved-in_ok-count-in-Record g c =
    let l = c.loop-removes in
    let counted = c.in_ok-count-in-Record.ensures in record {
      surveying = one_passed _ _ c.in-Record.len c.in-Record.removes l.tally c.count.new.self
          l.buffer c.skip_record.new.buffer _ _ l.invariant.surveying c.in-Record.ensures
          (record {
            records = counted.records;
            removals = counted.removals;
            bytes = counted.bytes;
            first_key = counted.first_key ∙
                ap (option_or (key_bytes l.tally.first_key)) c.kept.ensures;
          });
      honest = l.invariant.honest;
      steady = l.invariant.steady;
      failures = l.invariant.failures;
    }

-- ---- a read

pub loop-removes-preserved : goal.loop-removes-preserved
loop-removes-preserved g c =
    let l = c.loop-removes in
    let fill = c.in_ok-fill-in-Nothing in record {
      surveying = more_came _ _ _ _ _ _ _ _ _ _ _ l.invariant.surveying c.in-Nothing.ensures.1
          fill.ensures.fills c.fill.ensures.kept l.invariant.honest;
      honest = λ o. c.fill.ensures.honest (l.invariant.honest o);
      steady = λ o. c.fill.ensures.steady (l.invariant.steady o);
      failures = fill.ensures.failures ∙ l.invariant.failures;
    }

pub returns-then-branch-eq0-clause-ok : goal.returns-then-branch-eq0-clause-ok
returns-then-branch-eq0-clause-ok g c =
    let l = c.loop-removes in
    let fill = c.in_ok-fill-in-Nothing in
    let none : fill.field-0 ≡ 0 = search rules in
    let same = gains_none _ _ _ _ _ fill.field-0 fill.ensures.fills none in
    λ o survey tells. end_told _ _ _ _ _ _ survey
    (more_came _ _ _ _ _ _ _ _ _ _ _ l.invariant.surveying c.in-Nothing.ensures.1
    fill.ensures.fills c.fill.ensures.kept l.invariant.honest)
    (still_undecided c.args.limit l.tally.records l.buffer c.skip_record.new.buffer c.fill.new.self
    (record { undecided = c.in-Nothing.ensures.0; same = c.in-Nothing.ensures.1 })
    c.fill.ensures.kept same)
    (λ o. fill.ensures.fills.over (l.invariant.honest o) none)
    (subst (λ flaw. Tells l.tally c.fill.new.self flaw survey) c.cut_in.ensures tells) o

pub returns-in_err-fill-in-Nothing-clause-no_flaw
    : goal.returns-in_err-fill-in-Nothing-clause-no_flaw
returns-in_err-fill-in-Nothing-clause-no_flaw g c =
    let l = c.loop-removes in
    let fills = c.in_err-fill-in-Nothing.ensures.fills in
    λ o told. no_flaw_shown _ _ _ _ _ _
    (nothing_came _ _ _ _ _ _ c.fill.new.self _ _ _ l.invariant.surveying c.in-Nothing.ensures.1
    fills c.fill.ensures.kept l.invariant.honest)
    (still_undecided c.args.limit l.tally.records l.buffer c.skip_record.new.buffer c.fill.new.self
    (record { undecided = c.in-Nothing.ensures.0; same = c.in-Nothing.ensures.1 })
    c.fill.ensures.kept fills.same) o

-- ---- a flaw

pub returns-in-Flawed-clause-keys : goal.returns-in-Flawed-clause-keys
returns-in-Flawed-clause-keys g c =
    let l = c.loop-removes in
    subst (λ (b : Held). HasToldKey c.in-Flawed.flaw b.unparsed) (sym c.in-Flawed.ensures.1)
    (has_told_key c.args.limit l.tally.records l.buffer.kept l.buffer.unparsed c.in-Flawed.flaw
    c.in-Flawed.ensures.0)

pub returns-in-Flawed-clause-ok : goal.returns-in-Flawed-clause-ok
returns-in-Flawed-clause-ok g c =
    let l = c.loop-removes in
    λ o survey tells. flaw_told _ _ _ _ _ _ c.in-Flawed.flaw survey l.invariant.surveying
    c.in-Flawed.ensures.0
    (subst (λ (b : Held). Tells l.tally b (Some c.in-Flawed.flaw) survey)
    c.in-Flawed.ensures.1 tells) o
