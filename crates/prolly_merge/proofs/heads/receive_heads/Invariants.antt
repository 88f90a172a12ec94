use Rattle.std.proofs.Common.{◌≡◌, ◌≤◌, length}
use Rattle.std.specs.Prelude.{vec_len, vec_capacity}
use Rattle.prolly_merge.proofs.Openings.{FirstOpen}
use Rattle.prolly_merge.proofs.heads.receive_heads.Given as goal

abbrev pub invariant-loop-input : goal.invariant-loop-input
invariant-loop-input g l = record {
  room : length l.initial.inputs ≤ vec_capacity l.heads;
  len : vec_len l.heads ≡ l.input-index;
  opened : FirstOpen g.I.In.link g.I.In.progress g.I.In.Follows g.I.In.received l.initial.inputs
      l.inputs l.heads.items;
}
