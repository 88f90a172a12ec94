use Rattle.std.proofs.Common.{◌≡◌, ◌+◌, ◌∙◌, ◌++◌, List, [], ap, arith, length, subst, sym, ℕ}
use Rattle.std.proofs.lemmas.List.{nil_from_length}
use Rattle.prolly_text.specs.Ahead.{PassesLine}
use Rattle.prolly_text.proofs.Skipping.{all_skipped, brought, end_skipped, more_skipped, sum_told}
use Rattle.prolly_text.proofs.lines.buffer.skip_line.Goals as goal

pub returns-then-end-unparsed-clause-passed : goal.returns-then-end-unparsed-clause-passed
returns-then-end-unparsed-clause-passed g c honest =
    let l = c.loop-buffer in
    let text = c.args.buffer.now.unparsed ++ (g.S.Source.seen c.args.source.now).left in
    let left = (g.S.Source.seen l.source).left in
    let end = c.line_end-end.result in
    let within = c.if-end-unparsed.true in
    let there = c.line_end-end.ensures.there
    (omega (arith, ap length c.unparsed.ensures, within)) in
    sum_told c.sum.result (PassesLine text (c.consume.new.self.unparsed ++ left))
    (l.passed + (end + 1)) c.sum.ensures.ok
    (subst (λ (t : List ℕ). PassesLine text (t ++ left) (l.passed + (end + 1)))
    (sym c.consume.ensures.unparsed) (end_skipped text l.buffer.unparsed left l.passed end
    (l.invariant.skipped honest) c.line_end-end.ensures.none there c.line_end-end.ensures.bound))

pub returns-then-branch-eq0-clause-passed : goal.returns-then-branch-eq0-clause-passed
returns-then-branch-eq0-clause-passed g c honest =
    let l = c.loop-buffer in
    let text = c.args.buffer.now.unparsed ++ (g.S.Source.seen c.args.source.now).left in
    let left = (g.S.Source.seen l.source).left in
    let left' = (g.S.Source.seen c.fill.new.source).left in
    let end = c.line_end-end.result in
    let fills = c.in_ok-fill.ensures.fills in
    let still = l.invariant.honest honest in
    let all : end ≡ length l.buffer.unparsed = omega (
      arith,
      ap length c.unparsed.ensures,
      c.if-end-unparsed.false,
      c.line_end-end.ensures.bound,
    ) in
    let came = brought l.buffer.unparsed c.consume-in-loop-buffer.new.self.unparsed fills.given
    c.fill.new.self.unparsed end all c.consume-in-loop-buffer.ensures.unparsed fills.behind in
    let nil : fills.given ≡ [] = nil_from_length fills.given
    (fills.size ∙ c.if-branch-eq0.true) in
    let over = fills.over still c.if-branch-eq0.true in
    let rest : c.fill.new.self.unparsed ++ left' ≡ [] =
    ap (λ (t : List ℕ). t ++ left') (came ∙ nil) ∙ over in
    all_skipped text (c.fill.new.self.unparsed ++ left') c.in_ok-passed.passed
    (more_skipped text l.buffer.unparsed left left' fills.given c.fill.new.self.unparsed l.passed end
    c.in_ok-passed.passed (l.invariant.skipped honest) c.line_end-end.ensures.none all
    (fills.first still) came c.in_ok-passed.ensures.ok) rest
    (let some = l.invariant.some in let s = c.in_ok-passed.ensures.ok in omega arith)

pub loop-buffer-preserved : goal.loop-buffer-preserved
loop-buffer-preserved g c =
    let l = c.loop-buffer in
    let text = c.args.buffer.now.unparsed ++ (g.S.Source.seen c.args.source.now).left in
    let left = (g.S.Source.seen l.source).left in
    let left' = (g.S.Source.seen c.fill.new.source).left in
    let end = c.line_end-end.result in
    let fills = c.in_ok-fill.ensures.fills in
    let all : end ≡ length l.buffer.unparsed = omega (
      arith,
      ap length c.unparsed.ensures,
      c.if-end-unparsed.false,
      c.line_end-end.ensures.bound,
    ) in
    let came = brought l.buffer.unparsed c.consume-in-loop-buffer.new.self.unparsed fills.given
    c.fill.new.self.unparsed end all c.consume-in-loop-buffer.ensures.unparsed fills.behind in record {
      skipped = λ honest. more_skipped text l.buffer.unparsed left left' fills.given
          c.fill.new.self.unparsed l.passed end c.in_ok-passed.passed
          (l.invariant.skipped honest) c.line_end-end.ensures.none all
          (fills.first (l.invariant.honest honest)) came c.in_ok-passed.ensures.ok;
      honest = λ honest. c.fill.ensures.honest (l.invariant.honest honest);
      steady = λ steady. c.fill.ensures.steady (l.invariant.steady steady);
      failures = c.in_ok-fill.ensures.failures ∙ l.invariant.failures;
      some = let few = c.if-branch-eq0.false in
          omega (arith, ap length came, fills.size);
    }
