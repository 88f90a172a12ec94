use Rattle.std.proofs.Common.{◌≡◌, ◌≢◌, ◌∙◌, All, ap, arith, length, length-append, rules, subst}
use Rattle.std.proofs.Common.{sym, take}
use Rattle.prolly_io.specs.ReadBufferLaws.{gains_none}
use Rattle.prolly_text.specs.Ahead.{IsAhead, last_ahead}
use Rattle.prolly_text.proofs.Looking.{line_found, long_found, none_grown, over_ahead, same_grown}
use Rattle.prolly_text.proofs.lines.buffer.look_ahead.Goals as goal

pub returns-then-end-gt-LINE_LIMIT-clause-ahead : goal.returns-then-end-gt-LINE_LIMIT-clause-ahead
returns-then-end-gt-LINE_LIMIT-clause-ahead g c honest = (
  c.loop-scanned.invariant.same honest,
  long_found c.loop-scanned.buffer.unparsed (g.S.Source.seen c.loop-scanned.source).left
      c.line_end-end.result c.line_end-end.ensures.none c.if-end-gt-LINE_LIMIT.true
      c.line_end-end.ensures.bound,
)

pub returns-then-end-held-clause-ahead : goal.returns-then-end-held-clause-ahead
returns-then-end-held-clause-ahead g c honest = (
  c.loop-scanned.invariant.same honest,
  line_found c.loop-scanned.buffer.unparsed (g.S.Source.seen c.loop-scanned.source).left
      c.line_end-end.result c.line_end-end.ensures.none
      (c.line_end-end.ensures.there (search rules)),
)

pub returns-then-branch-eq0-clause-ahead : goal.returns-then-branch-eq0-clause-ahead
returns-then-branch-eq0-clause-ahead g c honest =
    let l = c.loop-scanned in
    let fills = c.in_ok-fill.ensures.fills in
    let left = (g.S.Source.seen l.source).left in
    let left' = (g.S.Source.seen c.fill.new.source).left in
    let held = length c.unparsed-held.result.now in
    let is : held ≡ length l.buffer.unparsed = ap length c.unparsed-held.ensures in
    let all : c.line_end-end.result ≡ held =
    omega (arith, c.line_end-end.ensures.bound, c.if-end-held.false) in
    let still = l.invariant.honest honest in (
      same_grown _ l.buffer.unparsed left c.fill.new.self.unparsed left' fills.given
          (l.invariant.same honest) (fills.first still) fills.behind,
      subst (IsAhead c.fill.new.self.unparsed left') (ap last_ahead all ∙ sym c.last_line.ensures)
          (over_ahead l.buffer.unparsed c.fill.new.self.unparsed left' c.line_end-end.result
          c.line_end-end.ensures.none (all ∙ is)
          (gains_none _ _ _ _ _ c.in_ok-fill.field-0 fills c.if-branch-eq0.true)
          (fills.over still c.if-branch-eq0.true)),
    )

pub loop-scanned-preserved : goal.loop-scanned-preserved
loop-scanned-preserved g c =
    let l = c.loop-scanned in
    let fills = c.in_ok-fill.ensures.fills in
    let left = (g.S.Source.seen l.source).left in
    let left' = (g.S.Source.seen c.fill.new.source).left in
    let held = length c.unparsed-held.result.now in
    let is : held ≡ length l.buffer.unparsed = ap length c.unparsed-held.ensures in
    let all : c.line_end-end.result ≡ held =
    omega (arith, c.line_end-end.ensures.bound, c.if-end-held.false) in record {
      same = λ honest. same_grown _ l.buffer.unparsed left c.fill.new.self.unparsed left'
          fills.given (l.invariant.same honest) (fills.first (l.invariant.honest honest))
          fills.behind;
      honest = λ honest. c.fill.ensures.honest (l.invariant.honest honest);
      steady = λ steady. c.fill.ensures.steady (l.invariant.steady steady);
      failures = c.in_ok-fill.ensures.failures ∙ l.invariant.failures;
      within = omega (
        arith,
        ap length fills.behind,
        length-append l.buffer.unparsed fills.given,
      );
      none = subst (λ n. All (λ b. b ≢ 0x0A) (take n c.fill.new.self.unparsed)) (sym is)
          (none_grown l.buffer.unparsed fills.given c.fill.new.self.unparsed
          c.line_end-end.result c.line_end-end.ensures.none (all ∙ is) fills.behind);
    }
