use Rattle.std.proofs.Common.{◌≡◌}
use Rattle.prolly_link.proofs.ends.receive_rest.Given as goal

abbrev pub invariant-loop : goal.invariant-loop
invariant-loop g l = (g.I.In.link l.input ≡ g.I.In.link l.initial.input) ×
    g.I.In.Follows l.initial.input l.input
