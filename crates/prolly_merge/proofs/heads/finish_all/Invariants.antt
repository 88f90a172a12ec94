use Rattle.std.proofs.Common.{◌≡◌}
use Rattle.prolly_merge.specs.Each.{EachUpto}
use Rattle.prolly_merge.specs.Peeked.{peeked_of, Finishes}
use Rattle.prolly_merge.proofs.heads.finish_all.Given as goal

abbrev pub invariant-loop-i : goal.invariant-loop-i
invariant-loop-i g l =
    EachUpto (Finishes g.I.In.link g.I.In.progress g.I.In.Follows g.I.In.received)
    (λ old new. new ≡ old.input) l.i (peeked_of l.initial.inputs l.heads) l.inputs
