use Rattle.std.proofs.Common.{refl, arith}
use Rattle.prolly_c.proofs.Behind.{still_behind}
use Rattle.prolly_c.proofs.Writing.{adds_all, adds_none, adds_run}
use Rattle.prolly_c.proofs.writer.add_leaf.Goals as goal

pub loop-left-init : goal.loop-left-init
loop-left-init c = record {
  within = omega arith;
  few = omega (arith, c.requires.few);
  fewer = c.requires.fewer;
  room = omega arith;
  more = omega arith;
  behind = refl;
  adds = λ done pairs tail end spells long wrote. adds_none c.args.bytes.now c.args.out.now
      c.args.written pairs tail done c.args.entries.now end spells wrote;
}

pub returns-in_err-count-clause-wrote : goal.returns-in_err-count-clause-wrote
returns-in_err-count-clause-wrote c = λ done pairs tail end spells long wrote.
    let a = c.loop-left.invariant.adds done pairs tail end spells long wrote in
    absurd (c.in_err-count.ensures.passes a.rest tail a.spells long)

pub loop-left-preserved : goal.loop-left-preserved
loop-left-preserved c =
    let some = c.in_ok-count.ensures.some (omega arith) in
    let less = c.in_ok-count.ensures.shorter in
    record {
      within = omega arith;
      few = omega (arith, c.add_run-here.ensures.pairs);
      fewer = omega (arith, c.add_run-here.ensures.pairs, c.add_run-here.ensures.runs);
      room = omega (arith, c.add_run-here.ensures.room);
      more = omega (arith, c.add_run-here.ensures.runs);
      behind = still_behind c.loop-left.here.runs c.add_run-here.result.runs c.args.out.now
          c.loop-left.out c.add_run-here.new.out (omega (arith, c.add_run-here.ensures.runs))
          c.loop-left.invariant.behind c.add_run-here.ensures.behind;
      adds = λ done pairs tail end spells long wrote.
          let a = c.loop-left.invariant.adds done pairs tail end spells long wrote in
          adds_run c.args.bytes.now c.loop-left.out c.add_run-here.new.out c.loop-left.here
          c.add_run-here.result pairs tail done c.loop-left.left.now c.in_ok-count.rest.now
          c.args.written _ c.in_ok-count.count a
          (c.in_ok-count.ensures.passes a.rest tail a.spells long) some c.in_ok-count.ensures.few
          (λ less. let full = c.in_ok-count.ensures.full less in omega arith)
          c.add_run-here.ensures.runs refl refl refl c.add_run-here.ensures.wrote;
    }

pub returns-then-left-behind-clause-wrote : goal.returns-then-left-behind-clause-wrote
returns-then-left-behind-clause-wrote c = λ done pairs tail end spells long wrote.
    let a = c.loop-left.invariant.adds done pairs tail end spells long wrote in
    let all = adds_all c.args.bytes.now c.loop-left.out c.loop-left.here pairs tail done
    c.loop-left.left.now c.args.written (omega arith) a in
    let same = all.0 in
    absurd (omega arith)

pub returns-clause-wrote : goal.returns-clause-wrote
returns-clause-wrote c = λ done pairs tail end spells long wrote.
    let a = c.loop-left.invariant.adds done pairs tail end spells long wrote in
    (adds_all c.args.bytes.now c.loop-left.out c.loop-left.here pairs tail done
    c.loop-left.left.now c.args.written (omega arith) a).1
