use Rattle.std.proofs.Common.{◌+◌, ◌∙◌, ◌++◌, ap, arith, subst, sym}
use Rattle.prolly_text.specs.FaultyLines.{IsOnward, IsSeen}
use Rattle.prolly_text.specs.declared.lines.defect.LinePlace.{LinePlace}
use Rattle.prolly_text.proofs.Appended.{still_front}
use Rattle.prolly_text.proofs.Explaining.{IsUnderWay, faulty_read, good_read}
use Rattle.prolly_text.proofs.lines.explain.append_faulty_lines.Goals as goal

pub loop-faulty-preserved-in-Good : goal.loop-faulty-preserved-in-Good
loop-faulty-preserved-in-Good g c =
    let l = c.loop-faulty in
    let text = (g.S.Source.seen c.args.source.now).left in
    let rest = l.buffer.unparsed ++ (g.S.Source.seen l.source).left in
    let new = c.explain_line.new in
    let rest' = new.buffer.unparsed ++ (g.S.Source.seen new.source).left in
    let old = c.args.out.now.items in
    let end = c.in-Good.end in
    let onward = subst (IsOnward l.place.offset) c.in-Good.is
    c.in_ok-explain_line.ensures.onward in record {
      under_way = λ honest. subst
          (λ q. IsUnderWay c.args.form c.args.limit text rest' q old new.out.items l.faulty)
          (sym c.behind-place.ensures)
          (good_read c.args.form c.args.limit text rest rest' l.place old l.out.items new.out.items
          l.faulty end (l.invariant.under_way honest) c.loop-faulty-test.true
          (subst (IsSeen c.args.form l.place rest rest' l.out.items new.out.items) c.in-Good.is
          (c.in_ok-explain_line.ensures.seen (l.invariant.honest honest))));
      honest = λ honest. c.explain_line.ensures.honest (l.invariant.honest honest);
      steady = λ steady. c.explain_line.ensures.steady (l.invariant.steady steady);
      failures = c.in_ok-explain_line.ensures.unfailed ∙ l.invariant.failures;
      number = let n = l.invariant.number in let e = c.behind-place.ensures in
          omega (arith, ap (λ (q : LinePlace). q.number) e, ap (λ (q : LinePlace). q.offset) e);
      few = l.invariant.few;
      kept = still_front old l.out.items new.out.items l.invariant.kept
          c.explain_line.ensures.kept;
    }

pub loop-faulty-preserved : goal.loop-faulty-preserved
loop-faulty-preserved g c =
    let l = c.loop-faulty in
    let text = (g.S.Source.seen c.args.source.now).left in
    let rest = l.buffer.unparsed ++ (g.S.Source.seen l.source).left in
    let new = c.explain_line.new in
    let rest' = new.buffer.unparsed ++ (g.S.Source.seen new.source).left in
    let old = c.args.out.now.items in
    let end = c.in-Faulty.end in
    let onward = subst (IsOnward l.place.offset) c.in-Faulty.is
    c.in_ok-explain_line.ensures.onward in record {
      under_way = λ honest. subst
          (λ q. IsUnderWay c.args.form c.args.limit text rest' q old new.out.items (l.faulty + 1))
          (sym c.behind-place-in-Faulty.ensures)
          (faulty_read c.args.form c.args.limit text rest rest' l.place old l.out.items
          new.out.items l.faulty end (l.invariant.under_way honest)
          (subst (IsSeen c.args.form l.place rest rest' l.out.items new.out.items) c.in-Faulty.is
          (c.in_ok-explain_line.ensures.seen (l.invariant.honest honest))));
      honest = λ honest. c.explain_line.ensures.honest (l.invariant.honest honest);
      steady = λ steady. c.explain_line.ensures.steady (l.invariant.steady steady);
      failures = c.in_ok-explain_line.ensures.unfailed ∙ l.invariant.failures;
      number = let n = l.invariant.number in let e = c.behind-place-in-Faulty.ensures in
          omega (arith, ap (λ (q : LinePlace). q.number) e, ap (λ (q : LinePlace). q.offset) e);
      few = let t = c.loop-faulty-test.true in omega arith;
      kept = still_front old l.out.items new.out.items l.invariant.kept
          c.explain_line.ensures.kept;
    }

pub returns-in_err-explain_line-clause-kept : goal.returns-in_err-explain_line-clause-kept
returns-in_err-explain_line-clause-kept g c = still_front c.args.out.now.items
    c.loop-faulty.out.items c.explain_line.new.out.items c.loop-faulty.invariant.kept
    c.explain_line.ensures.kept

pub returns-in-End-clause-kept : goal.returns-in-End-clause-kept
returns-in-End-clause-kept g c = still_front c.args.out.now.items
    c.loop-faulty.out.items c.explain_line.new.out.items c.loop-faulty.invariant.kept
    c.explain_line.ensures.kept
