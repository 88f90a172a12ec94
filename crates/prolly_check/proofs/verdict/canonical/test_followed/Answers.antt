use Rattle.std.proofs.Common.{◌≡◌, ◌≤◌, ◌∙◌, arith, length, length-take, take}
use Rattle.prolly_check.proofs.Canonical.{ends_all, err_of, ok_of, out_next, taken_next}
use Rattle.prolly_check.proofs.verdict.canonical.test_followed.Goals as goal

pub returns-in-Err-clause-err : goal.returns-in-Err-clause-err
returns-in-Err-clause-err c =
    let count : c.loop-number.number ≡ length (take c.loop-number.number c.args.chunks.now) =
    grind (arith, length-take, c.len-number-end.ensures) in
    c.first_fault.ensures c.args.cut c.args.version c.requires.whole c.requires.few
    (out_next c.args.cut c.args.version c.args.chunks.now c.requires.few c.loop-number.follower
    c.loop-number.invariant.cut c.loop-number.invariant.version c.loop-number.number
    c.loop-number.invariant.follows _ _ c.in-Err.fault (omega (arith, c.len-number-end.ensures))
    c.chunk-chunk.ensures c.place_of_end-later.ensures count c.in-Err.ensures.takes)

pub returns-clause-ok : goal.returns-clause-ok
returns-clause-ok c =
    let past : length c.args.chunks.now ≤ c.loop-number.number =
    omega (arith, c.len-number-end.ensures) in
    ok_of _ _ c.finish.result (ends_all c.args.cut c.args.version c.args.chunks.now c.requires.few
    c.loop-number.follower c.loop-number.invariant.cut c.loop-number.invariant.version
    c.loop-number.number c.loop-number.invariant.follows c.len.result c.finish.result c.len.ensures
    past c.finish.ensures.ends)

pub returns-clause-err : goal.returns-clause-err
returns-clause-err c =
    let past : length c.args.chunks.now ≤ c.loop-number.number =
    omega (arith, c.len-number-end.ensures) in
    err_of _ _ c.finish.result (ends_all c.args.cut c.args.version c.args.chunks.now c.requires.few
    c.loop-number.follower c.loop-number.invariant.cut c.loop-number.invariant.version
    c.loop-number.number c.loop-number.invariant.follows c.len.result c.finish.result c.len.ensures
    past c.finish.ensures.ends)

pub loop-number-preserved : goal.loop-number-preserved
loop-number-preserved c =
    let count : c.loop-number.number ≡ length (take c.loop-number.number c.args.chunks.now) =
    grind (arith, length-take, c.len-number-end.ensures) in
    record {
      follows = taken_next c.args.cut c.args.version c.args.chunks.now c.requires.few
          c.loop-number.follower c.loop-number.invariant.cut c.loop-number.invariant.version
          c.loop-number.number c.loop-number.invariant.follows c.take.new.self _
          (omega (arith, c.len-number-end.ensures)) c.chunk-chunk.ensures count
          c.in_default.ensures.takes;
      cut = c.take.ensures.alike.0 ∙ c.loop-number.invariant.cut;
      version = c.take.ensures.alike.1 ∙ c.loop-number.invariant.version;
    }
