use Rattle.std.proofs.Common.{◌≡◌, ◌≤◌, All, map, vec_len, vec_capacity}
use Rattle.prolly_build.specs.RunResult.{IsUnsent, IsUnreceived}
use Rattle.prolly_build.proofs.links.new_ends.Given as goal

abbrev pub invariant-loop : goal.invariant-loop
invariant-loop l =
    (vec_len l.outs ≡ l.counter)
    × (l.fn.files ≤ vec_capacity l.outs)
    × All IsUnsent l.outs.items
    × All IsUnreceived l.inputs.items
    × (map (λ o. o.link) l.outs.items ≡ map (λ r. r.link) l.inputs.items)
