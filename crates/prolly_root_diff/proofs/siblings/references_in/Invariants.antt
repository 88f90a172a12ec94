use Rattle.std.proofs.Common.{◌≡◌, [], ◌++◌, map, length}
use Rattle.prolly_look_up.specs.Entries.{IsNode, children_in}
use Rattle.prolly_root_diff.proofs.siblings.references_in.Given as goal

abbrev pub invariant-loop-child : goal.invariant-loop-child
invariant-loop-child l = IsNode l.version l.entries [] ×
    (map (λ r. r.0) l.references.items ++ map (λ c. c.reference) (children_in l.version l.entries) ≡
    map (λ c. c.reference) (children_in l.version l.fn.entries))

abbrev pub decreases-loop-child : goal.decreases-loop-child
decreases-loop-child l = length l.entries
