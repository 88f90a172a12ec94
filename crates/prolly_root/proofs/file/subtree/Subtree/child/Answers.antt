use Rattle.std.proofs.Common.{◌≡◌, refl, subst, sym, arith}
use Rattle.prolly_root.specs.Subtree.{FindsNth}
use Rattle.prolly_root.specs.Walk.{IsBehind}
use Rattle.prolly_root.proofs.Descending.{handed_on}
use Rattle.prolly_root.specs.lemmas.Levels.{behind_next, nth_next}
use Rattle.prolly_root.proofs.Sources.{misses}
use Rattle.prolly_root.proofs.Walking.{holds_chunks_still, reads_on}
use Rattle.prolly_root.proofs.file.subtree.Subtree.child.Goals as goal

pub loop-count-init : goal.loop-count-init
loop-count-init g c = record {
  near = c.nearest-count.ensures.near;
  read = (λ honest. (honest, refl), refl);
  reached = λ file has. c.nearest-count.ensures.reached file has.1;
}

pub returns-in_err-next_of_level-clause-place : goal.returns-in_err-next_of_level-clause-place
returns-in_err-next_of_level-clause-place g c file has keeps first =
    let before = c.loop-count.invariant in
    let at = before.reached file has keeps first in
    subst (FindsNth file c.args.level c.args.self.now.top.below.number c.args.number)
    (sym (handed_on c.in_err-next_of_level.field-0.0 c.from_residual.result
    c.from_residual.ensures))
    (misses file c.args.level c.args.number c.loop-count.count
    c.args.self.now.top.below.number c.loop-count.walk.number before.near at.1
    (c.in_err-next_of_level.ensures.goes file
    (holds_chunks_still before.read.0 has.0) at.0))

pub loop-count-preserved : goal.loop-count-preserved
loop-count-preserved g c =
    let old = g.D.Device.seen c.args.device.now in
    let mid = g.D.Device.seen c.loop-count.device in
    let new = g.D.Device.seen c.next_of_level.new.device in
    let before = c.loop-count.invariant in
    let over = c.in_ok-next_of_level.ensures in record {
      near = omega (arith, c.loop-count-test.true);
      read = reads_on old mid new (λ n. new.failures ≡ n) before.read over.read;
      reached = λ file has keeps first.
          let at = before.reached file has keeps first in
          let goes = over.goes file (holds_chunks_still before.read.0 has.0) at.0 in (
            goes.2,
            behind_next file c.args.level c.args.self.now.top.below.number c.loop-count.count
                c.loop-count.walk.number c.in_ok-next_of_level.field-0.number
                c.next_of_level.new.self.number at.1 goes.1 goes.3,
          );
    }

pub returns-in_err-frame-clause-place : goal.returns-in_err-frame-clause-place
returns-in_err-frame-clause-place g c file has keeps first =
    let before = c.loop-count.invariant in
    let at = before.reached file has keeps first in
    subst (FindsNth file c.args.level c.args.self.now.top.below.number c.args.number)
    (sym (handed_on c.in_err-frame.field-0.0 c.from_residual-in_err-frame.result
    c.from_residual-in_err-frame.ensures))
    (misses file c.args.level c.args.number c.loop-count.count
    c.args.self.now.top.below.number c.loop-count.walk.number before.near at.1
    (c.in_err-frame.ensures.goes file
    (holds_chunks_still before.read.0 has.0) at.0))

pub returns-clause-keeps : goal.returns-clause-keeps
returns-clause-keeps g c file has keeps first =
    let from = c.args.self.now.top.below.number in
    let walk = c.loop-count.walk in
    let before = c.loop-count.invariant in
    let at = before.reached file has keeps first in
    let there : c.loop-count.count ≡ c.args.number =
    omega (arith, before.near, c.loop-count-test.false) in
    let behind = subst (λ k. IsBehind file c.args.level from k walk.number) there at.1 in
    let goes = c.in_ok-frame.ensures.goes file
    (holds_chunks_still before.read.0 has.0) at.0 in
    let nth = nth_next file c.args.level c.args.number from walk.number
    c.in_ok-frame.frame.number behind goes.1 in (
      record { frame = goes.0; nth = nth; below = at.0; behind = behind },
      goes.2,
      (c.in_ok-frame.frame.number, nth, goes.3),
    )

pub returns-clause-place : goal.returns-clause-place
returns-clause-place g c file has keeps first =
    (returns-clause-keeps g c file has keeps first).0
