use Rattle.std.proofs.Common.{◌≡◌, ◌<◌, ◌++◌, ◌∙◌, [], ap, map, rules, sym}
use Rattle.prolly_look_up.specs.Way.{level_of}
use Rattle.prolly_range.specs.Children.{met_of}
use Rattle.prolly_range.specs.Dues.{due_of, seen_due}
use Rattle.prolly_range.specs.KeySet.{set_of}
use Rattle.prolly_range.proofs.Below.{behind_first, below_node}
use Rattle.prolly_range.proofs.due.put_below.Goals as goal

pub returns : goal.returns
returns c =
    let chunk = c.args.chunk.now in
    let high : 0 < level_of chunk = search rules in
    let none : c.loop-child.met.items ≡ [] = search rules in
    let level = level_of chunk in
    ap (λ ms. map (seen_due level) (map met_of ms) ++ map due_of c.loop-child.due.items) (sym none) ∙
    c.loop-child.invariant ∙
    ap (λ ds. ds ++ map due_of c.args.due.now.items)
    (below_node c.args.version (set_of c.args.set) chunk (map met_of c.in_ok-met.met.items) high
    (rw (behind_first chunk) at c.in_ok-met.ensures))
