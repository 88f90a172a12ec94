use Rattle.std.proofs.Common.{arith}
use Rattle.std.proofs.lemmas.Grind.{common_steps}
use Rattle.prolly_look_up.specs.lemmas.PairsFrom.{copied_on}
use Rattle.prolly_check.proofs.look_up.scan.scan_pairs.Goals as goal

pub loop-leaf-preserved : goal.loop-leaf-preserved
loop-leaf-preserved c = copied_on c.args.limit c.args.leaves c.loop-leaf.found.items
    c.loop-leaf.leaves c.loop-leaf.invariant c.in-Some.leaf _ c.in-Some.ensures.next _
    c.in_ok-copy_pairs.ensures.added

pub returns-then-len-limit : goal.returns-then-len-limit
returns-then-len-limit c = grind (arith, common_steps)
