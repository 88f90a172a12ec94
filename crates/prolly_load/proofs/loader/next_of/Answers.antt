use Rattle.std.proofs.Common.{rules, ◌≡◌, ◌∙◌, refl}
use Rattle.prolly_io.specs.ReadBufferLaws.{gains_none}
use Rattle.prolly_load.proofs.UnderWay.{one_sent, more_read, nothing_read, record_taken}
use Rattle.prolly_load.proofs.UnderWay.{flaw_taken, nothing_taken, still_undecided}
use Rattle.prolly_load.proofs.LoadEnds.{memory_ends, flaw_ends, over_ends, read_ends}
use Rattle.prolly_load.proofs.loader.next_of.Goals as goal

pub returns-in-Ok-Record-clause-goes_on : goal.returns-in-Ok-Record-clause-goes_on
returns-in-Ok-Record-clause-goes_on g c asked bytes before after still h =
    let l = c.loop-record in
    let here = l.invariant.under_way asked bytes before after still h in record {
      sent = one_sent _ _ _ _ _ _ _ _ _ _ c.in-Ok-Record.record here
          (record_taken c.args.limit c.args.count l.buffer c.take_record.new.buffer
          c.in-Ok-Record.field-0 c.in-Ok-Record.record c.in-Ok-Record.ensures
          c.in-Ok-Record.field-0-is) refl;
      refused = memory_ends c.args.file _ _ _ _ _ _ _ _ here;
    }

pub returns-in-Err-clause-goes_on : goal.returns-in-Err-clause-goes_on
returns-in-Err-clause-goes_on g c asked bytes before after still h =
    memory_ends c.args.file _ _ _ _ _ _ _ _
    (c.loop-record.invariant.under_way asked bytes before after still h)

pub returns-in-Ok-Flawed-clause-goes_on : goal.returns-in-Ok-Flawed-clause-goes_on
returns-in-Ok-Flawed-clause-goes_on g c asked bytes before after still h =
    let l = c.loop-record in
    flaw_ends c.args.file _ _ _ _ _ _ _ _ c.in-Ok-Flawed.flaw c.fault_of.result
    (l.invariant.under_way asked bytes before after still h)
    (flaw_taken c.args.limit c.args.count l.buffer c.take_record.new.buffer c.in-Ok-Flawed.field-0
    c.in-Ok-Flawed.flaw c.in-Ok-Flawed.ensures c.in-Ok-Flawed.field-0-is)
    c.fault_of.ensures

-- ---- a read

pub loop-record-preserved : goal.loop-record-preserved
loop-record-preserved g c =
    let l = c.loop-record in
    let taken = nothing_taken c.args.limit c.args.count l.buffer c.take_record.new.buffer
    c.in-Ok-Nothing.field-0 c.in-Ok-Nothing.ensures c.in-Ok-Nothing.field-0-is in record {
      under_way = λ asked bytes before after still h. more_read _ _ _ _ _ _ _ _ _ _ _ _ _
          (l.invariant.under_way asked bytes before after still h) taken.same
          c.in-Ok.ensures.fills c.fill.ensures.kept (λ o. l.invariant.honest (still o));
      honest = λ o. c.fill.ensures.honest (l.invariant.honest o);
      steady = λ o. c.fill.ensures.steady (l.invariant.steady o);
      failures = c.in-Ok.ensures.failures ∙ l.invariant.failures;
    }

pub returns-in-Ok-eq0-clause-goes_on : goal.returns-in-Ok-eq0-clause-goes_on
returns-in-Ok-eq0-clause-goes_on g c asked bytes before after still h =
    let l = c.loop-record in
    let taken = nothing_taken c.args.limit c.args.count l.buffer c.take_record.new.buffer
    c.in-Ok-Nothing.field-0 c.in-Ok-Nothing.ensures c.in-Ok-Nothing.field-0-is in
    let none : c.in-Ok-eq0.field-0 ≡ 0 = search rules in
    let same = gains_none _ _ _ _ _ c.in-Ok-eq0.field-0 c.in-Ok-eq0.ensures.fills none in
    over_ends c.args.file _ _ _ _ _ _ _ _ c.end_in.result
    (more_read _ _ _ _ _ _ _ c.fill.new.self _ _ _ _ _
    (l.invariant.under_way asked bytes before after still h) taken.same
    c.in-Ok-eq0.ensures.fills c.fill.ensures.kept (λ o. l.invariant.honest (still o)))
    (still_undecided c.args.limit c.args.count l.buffer c.take_record.new.buffer c.fill.new.self
    taken c.fill.ensures.kept same)
    (λ o. c.in-Ok-eq0.ensures.fills.over (l.invariant.honest (still o)) none)
    c.end_in.ensures

pub returns-in-Err-fill-clause-goes_on : goal.returns-in-Err-fill-clause-goes_on
returns-in-Err-fill-clause-goes_on g c asked bytes before after still h =
    let l = c.loop-record in
    let taken = nothing_taken c.args.limit c.args.count l.buffer c.take_record.new.buffer
    c.in-Ok-Nothing.field-0 c.in-Ok-Nothing.ensures c.in-Ok-Nothing.field-0-is in
    let fills = c.in-Err-fill.ensures.fills in
    read_ends c.args.file _ _ _ _ _ _ _ _
    (nothing_read _ _ _ _ _ _ c.fill.new.self _ _ _ _ _
    (l.invariant.under_way asked bytes before after still h) taken.same fills
    c.fill.ensures.kept (λ o. l.invariant.honest (still o)))
    (still_undecided c.args.limit c.args.count l.buffer c.take_record.new.buffer c.fill.new.self
    taken c.fill.ensures.kept fills.same)
