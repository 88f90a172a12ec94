use Rattle.std.proofs.Common.{◌≡◌, take}
use Rattle.prolly_merge.specs.Each.{EachUpto}
use Rattle.prolly_merge.specs.Many.{last_with}
use Rattle.prolly_merge.specs.Peeked.{peeked_of}
use Rattle.prolly_merge.specs.MergeStep.{MovesOn}
use Rattle.prolly_merge.proofs.round.skip_key.Given as goal

abbrev pub invariant-loop-i : goal.invariant-loop-i
invariant-loop-i g l = record {
  left_out : l.left_out ≡ last_with l.sent.key (take l.i l.initial.heads);
  moves : EachUpto (MovesOn g.I.In.link g.I.In.progress g.I.In.Follows g.I.In.received l.sent.key)
      (λ old new. new ≡ old) l.i
      (peeked_of l.initial.inputs l.initial.heads) (peeked_of l.inputs l.heads);
}
