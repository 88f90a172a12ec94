use Rattle.std.proofs.Common.{◌≡◌}
use Rattle.prolly_merge.specs.Each.{EachUpto}
use Rattle.prolly_merge.specs.Inputs.{Ends}
use Rattle.prolly_merge.proofs.heads.receive_rests.Given as goal

abbrev pub invariant-loop-input : goal.invariant-loop-input
invariant-loop-input g l =
    EachUpto (Ends g.I.In.link g.I.In.progress g.I.In.Follows) (λ old new. new ≡ old) l.input-index
    l.initial.inputs l.inputs
