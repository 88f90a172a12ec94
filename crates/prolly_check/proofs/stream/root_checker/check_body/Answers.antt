use Rattle.std.proofs.Common.{[], arith, refl, sym, ◌∙◌}
use Rattle.std.proofs.lemmas.Result.{err_from_is_err_and}
use Rattle.prolly_check.proofs.ChunkSteps.{body_ends, body_filled, decided_of}
use Rattle.prolly_check.proofs.Sources.{none_read, read_no_more, read_on, read_told}
use Rattle.prolly_check.proofs.stream.root_checker.check_body.Goals as goal

pub returns-in_err-read-clause-source : goal.returns-in_err-read-clause-source
returns-in_err-read-clause-source g c =
    let p = err_from_is_err_and c.from_residual.result
    c.from_residual.ensures.1 in
    read_no_more _ _ (none_read _) _ c.from_residual.result (rw (p.1, p.2) (λ e. cc e))

pub loop-read-init : goal.loop-read-init
loop-read-init g c = record {
  source = none_read _;
  read = λ honest. record {
    chunks = [];
    spelled = refl;
    small = tt;
    are = c.in_ok-read.ensures.0;
    many = refl;
  };
  few = (omega (arith, c.in_ok-read.ensures.0.count), omega arith);
  cut = c.in_ok-read.ensures.1 ∙ c.cut_of.ensures;
  version = c.in_ok-read.ensures.2;
}

pub returns-in_err-fill-clause-source : goal.returns-in_err-fill-clause-source
returns-in_err-fill-clause-source g c =
    let p = err_from_is_err_and c.from_residual-in_err-fill.result
    c.from_residual-in_err-fill.ensures.1 in
    rw (p.1, p.2) (read_told _ _ c.loop-read.invariant.source _ c.in_err-fill.ensures.source)

pub returns-in_err-take_frames-clause-verdict : goal.returns-in_err-take_frames-clause-verdict
returns-in_err-take_frames-clause-verdict g c = λ honest.
    let p = err_from_is_err_and c.from_residual-in_err-take_frames.result
    c.from_residual-in_err-take_frames.ensures.1 in
    rw (p.1, p.2, sym c.loop-read.invariant.version, sym c.loop-read.invariant.cut)
    (c.in_err-take_frames.ensures.takes _ _ (body_filled _ _ _ c.fill.new.bytes.items (g.S.Source.seen c.fill.new.source).left
    c.loop-read.read c.loop-read.size (c.loop-read.invariant.read honest)
    (c.in_ok-fill.ensures.bytes (c.loop-read.invariant.source.0.honest honest))))

pub returns-in_err-take_frames-clause-source : goal.returns-in_err-take_frames-clause-source
returns-in_err-take_frames-clause-source g c =
    let p = err_from_is_err_and c.from_residual-in_err-take_frames.result
    c.from_residual-in_err-take_frames.ensures.1 in
    read_no_more _ _ (read_on _ _ c.loop-read.invariant.source _ c.in_ok-fill.ensures.source) _
    c.from_residual-in_err-take_frames.result (rw (p.1, p.2) c.in_err-take_frames.ensures.unread)

pub returns-then-not-branch-clause-verdict : goal.returns-then-not-branch-clause-verdict
returns-then-not-branch-clause-verdict g c = λ honest.
    let left = (g.S.Source.seen c.fill.new.source).left in
    let none = c.in_ok-take_frames.ensures.none c.if-not-branch.true in
    rw (
      sym c.loop-read.invariant.version,
      sym c.loop-read.invariant.cut,
      sym c.take_frames.ensures.alike.0,
      sym c.take_frames.ensures.alike.1,
    )
    (body_ends _ _ left c.take_frames.new.self c.take_frames.new.size c.finish.result
    (c.in_ok-take_frames.ensures.takes _ _ (body_filled _ _ _ c.fill.new.bytes.items (g.S.Source.seen c.fill.new.source).left
    c.loop-read.read c.loop-read.size (c.loop-read.invariant.read honest)
    (c.in_ok-fill.ensures.bytes (c.loop-read.invariant.source.0.honest honest)))) c.in_ok-take_frames.ensures.few.1 none.1
    (rw none.0 (decided_of c.in_ok-fill.field-0 c.fill.new.bytes.items left
    (c.in_ok-fill.ensures.over (c.loop-read.invariant.source.0.honest honest))
    c.in_ok-fill.ensures.filled))
    (rw c.deref.ensures.value at c.finish.ensures.ends))

pub returns-then-not-branch-clause-source : goal.returns-then-not-branch-clause-source
returns-then-not-branch-clause-source g c =
    read_no_more _ _ (read_on _ _ c.loop-read.invariant.source _ c.in_ok-fill.ensures.source) _
    c.finish.result c.finish.ensures.unread

pub loop-read-smaller : goal.loop-read-smaller
loop-read-smaller g c = omega (
  arith,
  c.in_ok-take_frames.ensures.some c.if-not-branch.false,
  c.in_ok-take_frames.ensures.few,
)

pub loop-read-preserved : goal.loop-read-preserved
loop-read-preserved g c = record {
  source = read_on _ _ c.loop-read.invariant.source _ c.in_ok-fill.ensures.source;
  read = λ honest. c.in_ok-take_frames.ensures.takes _ _ (body_filled _ _ _ c.fill.new.bytes.items (g.S.Source.seen c.fill.new.source).left
      c.loop-read.read c.loop-read.size (c.loop-read.invariant.read honest)
      (c.in_ok-fill.ensures.bytes (c.loop-read.invariant.source.0.honest honest)));
  few = c.in_ok-take_frames.ensures.few;
  cut = c.take_frames.ensures.alike.0 ∙ c.loop-read.invariant.cut;
  version = c.take_frames.ensures.alike.1 ∙ c.loop-read.invariant.version;
}
