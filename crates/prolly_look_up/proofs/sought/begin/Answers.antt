use Rattle.std.proofs.Common.{sym, ◌∙◌}
use Rattle.prolly_look_up.specs.Sought.{value_of}
use Rattle.prolly_look_up.specs.lemmas.Chosen.{begins_there}
use Rattle.prolly_look_up.specs.lemmas.RisingKeys.{is_less}
use Rattle.prolly_look_up.proofs.sought.begin.Goals as goal

pub returns-in-Some-clause-same : goal.returns-in-Some-clause-same
returns-in-Some-clause-same c = rw c.in-Key.is
    (begins_there c.args.version c.args.chunk.now c.args.mark c.requires.mark
    (value_of c.in-Some.child) _ c.in-Some.ensures.next c.in-Key.key.now c.requires.rising
    (sym c.key_order.ensures ∙
    is_less c.key_order.result (sym c.is_lt.ensures ∙ c.if-is_lt.true)))
