use Rattle.std.proofs.Common.{◌≡◌, ◌+◌, ◌<◌, set, arith, sym, subst}
use Rattle.prolly_root.specs.ChunkFile.{ChunkFile}
use Rattle.prolly_root.specs.Marks.{AreRuns, IsRun}
use Rattle.prolly_root.specs.Walk.{IsFrame}
use Rattle.prolly_root.proofs.Marking.{Begun, all_begun, all_counted, fresh, one_behind}
use Rattle.prolly_root.proofs.Marking.{one_begun, run_at, run_fits}
use Rattle.prolly_root.proofs.file.marks.Marks.count.Goals as goal

pub loop-lower-preserved : goal.loop-lower-preserved
loop-lower-preserved c = record {
  marks = c.loop-lower.invariant.marks;
  begun = λ file is next are.
      let runs = c.loop-lower.self.runs in
      let lower = c.loop-lower.lower in
      subst (λ n. Begun file c.args.frame.number (lower + 1) (set runs lower (fresh n)))
      (sym next) (one_begun (omega (arith, c.loop-lower-test.true))
      (c.loop-lower.invariant.begun file is next are));
}

-- where the level is not counted, all runs begin anew
pub returns-then-level-ge-LEVELS-clause-runs : goal.returns-then-level-ge-LEVELS-clause-runs
returns-then-level-ge-LEVELS-clause-runs c file is next are = rw next (all_begun
    (omega (arith, c.loop-lower-test.false, c.if-level-ge-LEVELS.true))
    (c.loop-lower.invariant.begun file is next are))

module _ (c : goal.After-saturating_add) (file : ChunkFile) (is : IsFrame file c.args.frame)
    (next : c.args.next ≡ c.args.frame.number + 1)
    (are : AreRuns file c.args.frame.number c.args.self.now.runs) where
  few : c.args.frame.level < 32
  few = omega (arith, c.if-level-ge-LEVELS.false)

  begun : Begun file c.args.frame.number c.args.frame.level c.loop-lower.self.runs
  begun = subst (λ n. Begun file c.args.frame.number n c.loop-lower.self.runs)
      (omega (arith, c.loop-lower-test.false)) (c.loop-lower.invariant.begun file is next are)

  run : IsRun file c.args.frame.number c.args.frame.level
      (run_at c.loop-lower.self.runs c.args.frame.level)
  run = begun.left c.args.frame.level few (omega arith)

  one : c.saturating_add.result ≡ (run_at c.loop-lower.self.runs c.args.frame.level).count + 1
  one = omega (
    arith,
    c.saturating_add.ensures,
    next,
    c.ranges.next.fits,
    run_fits file c.args.frame.level c.args.frame.number _ run,
  )

pub returns-clause-runs : goal.returns-clause-runs
returns-clause-runs c file is next are = rw next (all_counted is (few c file is next are)
    (begun c file is next are) (one c file is next are))

pub returns-clause-behind : goal.returns-clause-behind
returns-clause-behind c file is next are = rw next (one_behind is (run c file is next are)
    (one c file is next are))
