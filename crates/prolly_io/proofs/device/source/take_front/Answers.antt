use Rattle.std.proofs.lemmas.Grind.{common_steps}
use Rattle.std.proofs.Common.{◌∙◌, ◌-◌, ◌++◌, length, take, sym, ap, arith, rules}
use Rattle.std.proofs.lemmas.List.{length-take-le}
use Rattle.std.proofs.lemmas.Result.{err_from_is_err_and}
use Rattle.prolly_io.proofs.Fronts.{front_grown}
use Rattle.prolly_io.proofs.device.source.take_front.Goals as goal

pub loop-count-preserved : goal.loop-count-preserved
loop-count-preserved g c = record {
  honest = search rules;
  bytes = λ honest. c.loop-count.invariant.bytes honest ∙
      front_grown c.loop-count.count (length c.loop-count.front - c.loop-count.count)
      c.in_ok-given.given c.loop-count.front c.read.new.buf c.loop-count.invariant.within
      (search rules) (search rules) _ _
      (c.in_ok-given.ensures.bytes (c.loop-count.invariant.honest honest)).0;
  failures = search rules;
  steady = search rules;
  within = search rules;
  size = search rules;
}

pub returns-in_err-given-clause-fewer : goal.returns-in_err-given-clause-fewer
returns-in_err-given-clause-fewer g c =
    let p = err_from_is_err_and c.from_residual.result c.from_residual.ensures.1 in
    rw p.1 (λ honest. record {
      given = take c.loop-count.count c.loop-count.front;
      are = c.loop-count.invariant.bytes honest ∙
          ap (λ left. take c.loop-count.count c.loop-count.front ++ left)
          (sym (c.in_err-given.ensures.bytes (c.loop-count.invariant.honest honest)));
      few = omega (
        arith,
        c.loop-count.invariant.size,
        length-take-le c.loop-count.count c.loop-count.front c.loop-count.invariant.within,
      );
    })

pub returns-then-given-eq0-clause-joined : goal.returns-then-given-eq0-clause-joined
returns-then-given-eq0-clause-joined g c = grind (arith, common_steps)

pub returns-then-given-eq0-clause-first : goal.returns-then-given-eq0-clause-first
returns-then-given-eq0-clause-first g c = grind (arith, common_steps)

pub returns-clause-first : goal.returns-clause-first
returns-clause-first g c = grind (arith, common_steps)
