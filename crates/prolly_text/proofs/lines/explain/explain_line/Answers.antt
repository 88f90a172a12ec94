use Rattle.std.proofs.Common.{◌≡◌, ◌++◌, List, ℕ, subst, take}
use Rattle.prolly_text.specs.Ahead.{IsAhead, IsWithin}
use Rattle.prolly_text.specs.declared.lines.defect.Defect.TheVariants.{LineTooLong}
use Rattle.prolly_text.specs.FaultyLines.{IsExplained, defect_lines}
use Rattle.prolly_text.proofs.Explaining.{held_seen, long_seen}
use Rattle.prolly_text.proofs.lines.explain.explain_line.Goals as goal

pub returns-in_ok-seen-in-Line-clause-seen : goal.returns-in_ok-seen-in-Line-clause-seen
returns-in_ok-seen-in-Line-clause-seen g c honest =
    let new = c.look_ahead.new.buffer.unparsed in
    let left = (g.S.Source.seen c.look_ahead.new.source).left in
    let looks = c.in_ok-look_ahead.ensures.ahead honest in
    held_seen c.args.form c.args.place
    (c.args.buffer.now.unparsed ++ (g.S.Source.seen c.args.source.now).left) new left
    c.consume.new.self.unparsed c.in-Line.len c.in-Line.size c.in_ok-end-in-Line.end
    c.args.out.now.items c.explain_held.new.out.items c.in_ok-seen-in-Line.seen looks.0
    (subst (IsAhead new left) c.in-Line.is looks.1)
    (subst (IsWithin new) c.in-Line.is c.in_ok-look_ahead.ensures.within) c.consume.ensures.unparsed
    c.in_ok-end-in-Line.ensures.ok
    (subst (λ (t : List ℕ). IsExplained c.args.form c.args.place (take c.in-Line.len t)
    c.in_ok-end-in-Line.end c.args.out.now.items c.explain_held.new.out.items
    c.in_ok-seen-in-Line.seen) c.unparsed.ensures c.in_ok-seen-in-Line.ensures.explained)

pub returns-in_ok-sum-in-TooLong-2-clause-seen : goal.returns-in_ok-sum-in-TooLong-2-clause-seen
returns-in_ok-sum-in-TooLong-2-clause-seen g c honest =
    let new = c.look_ahead.new.buffer.unparsed in
    let left = (g.S.Source.seen c.look_ahead.new.source).left in
    let looks = c.in_ok-look_ahead.ensures.ahead honest in
    long_seen c.args.form c.args.place
    (c.args.buffer.now.unparsed ++ (g.S.Source.seen c.args.source.now).left) new left
    (c.skip_line.new.buffer.unparsed ++ (g.S.Source.seen c.skip_line.new.source).left)
    c.in_ok-size-in-TooLong.size c.in_ok-sum-in-TooLong-2.field-0 c.args.out.now.items
    c.append_defect.new.out.items looks.0 (subst (IsAhead new left) c.in-TooLong.is looks.1)
    (subst (IsWithin new) c.in-TooLong.is c.in_ok-look_ahead.ensures.within)
    (c.in_ok-size-in-TooLong.ensures.passed (c.look_ahead.ensures.honest honest))
    c.in_ok-sum-in-TooLong-2.ensures.ok
    (subst (λ (t : List ℕ). c.append_defect.new.out.items ≡ c.args.out.now.items ++
    defect_lines c.args.form.notation c.args.place t LineTooLong) c.unparsed-held.ensures
    c.in_ok-append_defect-in-TooLong.ensures)
